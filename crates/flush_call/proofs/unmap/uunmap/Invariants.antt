use Rattle.umap_pager.specs.Passes.{FitTo}
use Rattle.flush_call.specs.InsideWalks.{GoneSoFar, WalkedTo}
use Rattle.flush_call.specs.Unmaps.{IsNowUnmapped}
use Rattle.flush_call.proofs.unmap.uunmap.Given as goal

abbrev pub invariant-loop-stripe : goal.invariant-loop-stripe
invariant-loop-stripe g l = FitTo l.pager l.p × WalkedTo (λ u before after. IsNowUnmapped l.region before after) l.stripe l.pager l.initial.p l.p × GoneSoFar l.gone l.region l.stripe l.pager l.initial.p l.p
