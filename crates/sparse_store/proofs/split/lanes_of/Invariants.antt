use Rattle.std.proofs.Common.{vec_len}
use Rattle.sparse_store.proofs.Splitting.{MakesSome}
use Rattle.sparse_store.specs.contracts.lane.SparseLaneStore.TheImpl.{ghosts}
use Rattle.sparse_store.proofs.split.lanes_of.Given as goal

abbrev pub invariant-shares : goal.invariant-shares
invariant-shares g l =
    let view = (ghosts g.row.P g.P.Part g.P.Part-dict).seen in
    MakesSome g.P.Part.seen view (λ lane. lane.parts.items) l.shape l.layout l.region l.fn.shares.items l.shares.items l.lanes

abbrev pub decreases-shares : goal.decreases-shares
decreases-shares g l = vec_len l.shares
