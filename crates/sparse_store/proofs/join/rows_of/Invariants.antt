use Rattle.std.proofs.Common.{vec_len}
use Rattle.sparse_store.proofs.Joining.{MovesSome}
use Rattle.sparse_store.proofs.join.rows_of.Given as goal

abbrev pub invariant-lanes : goal.invariant-lanes
invariant-lanes g l = MovesSome (λ row. row.items) (λ lane. lane.parts.items) l.fn.lanes.items l.lanes.items l.rows

abbrev pub decreases-lanes : goal.decreases-lanes
decreases-lanes g l = vec_len l.lanes
