use Rattle.std.proofs.Common.{length, map}
use Rattle.sparse_store.proofs.Joining.{GathersSome}
use Rattle.sparse_store.proofs.join.gather.Given as goal

abbrev pub invariant-number : goal.invariant-number
invariant-number g l = GathersSome (length l.fn.rows) l.region l.count l.number (map (λ row. row.items) l.fn.rows) (map (λ row. row.items) l.rows) l.parts

abbrev pub decreases-number : goal.decreases-number
decreases-number g l = l.number
