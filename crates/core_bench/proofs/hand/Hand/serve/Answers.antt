use Rattle.std.proofs.Common.{refl}
use Rattle.page_model.specs.declared.entry.Entry.TheVariants as entry
use Rattle.core_bench.proofs.Kept.{makes}
use Rattle.core_bench.proofs.hand.Hand.serve.Goals as goal

pub invariant_of-self : goal.invariant_of-self
invariant_of-self g c = makes _ _ _ _ _ _ (entry.Dropped c.drop_raise.result) c.drop_raise.ensures.fixed c.drop_raise.ensures.stands (λ h r. refl) c.self.invariant

pub invariant_of-self-in-Open : goal.invariant_of-self-in-Open
invariant_of-self-in-Open g c = makes _ _ _ _ _ _ (entry.Opened c.open_page.result) c.open_page.ensures.fixed c.open_page.ensures.stands (λ h r. refl) c.self.invariant
