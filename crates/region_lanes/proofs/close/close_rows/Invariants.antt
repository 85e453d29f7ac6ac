use Rattle.std.proofs.Common.{◌≡◌, ◌⊎◌, ◌≤◌, true, List, map, Option, vec_len}
use Rattle.std.specs.Option.{IfSome}
use Rattle.page_base.specs.Lanes.{LaneSeen, Rose}
use Rattle.file_store.specs.Parts.{WhereTold}
use Rattle.file_store.specs.Shelves.{Shelf}
use Rattle.region_lanes.specs.Closings.{AllOut, ClosesAll, any_fault}
use Rattle.region_lanes.specs.InsideClosed.{flat_rows}
use Rattle.region_lanes.specs.contracts.any_lane.AnyLaneStore.TheImpl.{ghosts}
use Rattle.region_lanes.proofs.close.close_rows.Given as goal

abbrev pub invariant-rows : goal.invariant-rows
invariant-rows g l =
    let seen = (ghosts g.row.F-Part g.F.Part.Part g.F.Part.Part-dict).seen in
    record {
      out : IfSome (g.F.Folder.seen l.folder).told (λ s. AllOut (flat_rows seen l.rows.items) s.out);
      closed : (new : Option Shelf) → WhereTold (ClosesAll (flat_rows seen l.rows.items)) (g.F.Folder.seen l.folder).told new → WhereTold (ClosesAll (flat_rows seen l.fn.rows.items)) (g.F.Folder.seen l.fn.folder).told new;
      later : (g.F.Folder.seen l.fn.folder).count ≤ (g.F.Folder.seen l.folder).count;
      faults : any_fault (flat_rows seen l.fn.rows.items) ≡ true → Rose (g.F.Folder.seen l.fn.folder).count (g.F.Folder.seen l.folder).count ⊎ (any_fault (flat_rows seen l.rows.items) ≡ true);
    }

abbrev pub decreases-rows : goal.decreases-rows
decreases-rows g l = vec_len l.rows
