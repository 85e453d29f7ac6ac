use Rattle.locked_stripe.specs.Walks.{FlushWent}
use Rattle.umap_pager.specs.Passes.{FitTo}
use Rattle.flush_call.specs.InsideWalks.{WalkedTo}
use Rattle.flush_call.proofs.flush.umap_flush.Given as goal

abbrev pub invariant-loop-stripe : goal.invariant-loop-stripe
invariant-loop-stripe g l = FitTo l.pager l.p × WalkedTo (λ u before after. FlushWent before after) l.stripe l.pager l.initial.p l.p
