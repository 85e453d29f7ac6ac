use Rattle.std.proofs.Common.{◌≡◌, ap}
use Rattle.workload_text.specs.View.{backing_of}
use Rattle.script_run.specs.RegionRules.{named_region}
use Rattle.region_lanes.specs.InsideOpened.{seen_in}
use Rattle.region_lanes.specs.contracts.any_lane.AnyLaneStore.TheImpl.{ghosts}
use Rattle.region_lanes.proofs.OneRegion.{file_region, file_out, file_shows, memory_lanes, memory_out}
use Rattle.region_lanes.proofs.region.open_region.Goals as goal

pub returns-in-File-clause-lanes : goal.returns-in-File-clause-lanes
returns-in-File-clause-lanes g c =
    let seen = (ghosts g.row.F-Part g.F.Part.Part g.F.Part.Part-dict).seen in
    let layout = c.args.layout.now in
    let line = c.args.line.now in
    file_region (seen_in seen) c.open_file.result (g.F.Folder.seen c.args.folder.now) layout c.args.region (named_region line) c.in-File.path.items c.cut_of-cut.result
    (ap backing_of c.in-File.is) c.requires.size c.cut_of-cut.ensures c.open_file.ensures.missing c.open_file.ensures.lanes

pub returns-in-File-clause-out : goal.returns-in-File-clause-out
returns-in-File-clause-out g c =
    let layout = c.args.layout.now in
    let line = c.args.line.now in
    file_out c.open_file.result layout c.args.region (named_region line) c.in-File.path.items c.cut_of-cut.result (g.F.Folder.seen c.args.folder.now) (g.F.Folder.seen c.open_file.new.folder)
    (ap backing_of c.in-File.is) c.cut_of-cut.ensures c.open_file.ensures.out
