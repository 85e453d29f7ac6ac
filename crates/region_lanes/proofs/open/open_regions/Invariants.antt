use Rattle.std.proofs.Common.{◌-◌, ◌≤◌, map, length}
use Rattle.serial_pager.specs.Pagers.{rows_by}
use Rattle.script_run.specs.RegionRules.{named_region}
use Rattle.region_lanes.specs.InsideOpened.{OpensFirst, HaveRoom}
use Rattle.region_lanes.specs.contracts.any_lane.AnyLaneStore.TheImpl.{ghosts}
use Rattle.region_lanes.proofs.open.open_regions.Given as goal

abbrev pub invariant-loop-i : goal.invariant-loop-i
invariant-loop-i g l =
    let seen = (ghosts g.row.F-Part g.F.Part.Part g.F.Part.Part-dict).seen in
    record {
      opens : OpensFirst l.i l.layout (map named_region l.lines) (rows_by seen l.rows) (g.F.Folder.seen l.fn.folder) (g.F.Folder.seen l.folder);
      room : HaveRoom (length l.lines - l.i) l.rows;
      later : (g.F.Folder.seen l.fn.folder).count ≤ (g.F.Folder.seen l.folder).count;
    }
