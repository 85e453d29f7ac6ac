use Rattle.std.proofs.Common.{vec_len}
use Rattle.sparse_store.proofs.Splitting.{DealsSome}
use Rattle.sparse_store.proofs.split.deal.Given as goal

abbrev pub invariant-parts : goal.invariant-parts
invariant-parts g l = DealsSome l.region l.number l.fn.parts.items l.parts.items l.fn.shares l.shares

abbrev pub decreases-parts : goal.decreases-parts
decreases-parts g l = vec_len l.parts
