use Rattle.std.proofs.Common.{refl}
use Rattle.page_model.specs.declared.entry.Entry.TheVariants as entry
use Rattle.core_bench.proofs.Kept.{makes}
use Rattle.core_bench.proofs.hand.Hand.hint.Goals as goal

pub invariant_of-self : goal.invariant_of-self
invariant_of-self g c = makes _ _ _ _ _ _ (entry.Hint _ c.hint.result) c.hint.ensures.fixed c.hint.ensures.stands (λ h r. refl) c.self.invariant
