use Rattle.std.proofs.Common.{vec_len}
use Rattle.region_lanes.proofs.Putting.{PutsSome}
use Rattle.region_lanes.proofs.open.put_lanes.Given as goal

abbrev pub invariant-lanes : goal.invariant-lanes
invariant-lanes g l = PutsSome g.S.Store.seen l.initial.lanes.items l.lanes.items l.initial.rows l.rows

abbrev pub decreases-lanes : goal.decreases-lanes
decreases-lanes g l = vec_len l.lanes
