use Rattle.std.proofs.Common.{◌≡◌, ◌≤◌, ◌++◌, List, map, vec_len}
use Rattle.store_trait.specs.MemLanes.{lane_seen}
use Rattle.region_lanes.specs.contracts.any_lane.AnyLaneStore.TheImpl.{ghosts}
use Rattle.region_lanes.proofs.region.lanes_in_memory.Given as goal

abbrev pub invariant-own : goal.invariant-own
invariant-own g l =
    let seen = (ghosts g.row.P g.P.Part g.P.Part-dict).seen in
    record {
      room : vec_len l.own ≤ l.lanes.spare;
      all : map seen l.lanes.items ++ map lane_seen l.own.items ≡ map lane_seen l.fn.own.items;
    }

abbrev pub decreases-own : goal.decreases-own
decreases-own g l = vec_len l.own
