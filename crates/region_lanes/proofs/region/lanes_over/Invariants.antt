use Rattle.std.proofs.Common.{◌≡◌, ◌≤◌, ◌++◌, true, List, map, vec_len}
use Rattle.std.specs.List.{All}
use Rattle.file_store.specs.FileLanes.{lane_of}
use Rattle.region_lanes.specs.InsideOpened.{IsStriped}
use Rattle.region_lanes.specs.contracts.any_lane.AnyLaneStore.TheImpl.{ghosts}
use Rattle.region_lanes.proofs.region.lanes_over.Given as goal

abbrev pub invariant-parts : goal.invariant-parts
invariant-parts g l =
    let seen = (ghosts g.row.P g.P.Part g.P.Part-dict).seen in
    record {
      room : vec_len l.parts ≤ l.lanes.spare;
      striped : All (λ p. IsStriped (g.P.Part.seen p)) l.parts.items;
      all : map seen l.lanes.items ++ map (λ p. lane_of (g.P.Part.seen p)) l.parts.items ≡ map (λ p. lane_of (g.P.Part.seen p)) l.fn.parts.items;
    }

abbrev pub decreases-parts : goal.decreases-parts
decreases-parts g l = vec_len l.parts
