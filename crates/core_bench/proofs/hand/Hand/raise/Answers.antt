use Rattle.core_bench.proofs.Kept.{goes}
use Rattle.core_bench.proofs.hand.Hand.raise.Goals as goal

pub invariant_of-self : goal.invariant_of-self
invariant_of-self g c = goes _ _ _ _ _ _ c.raise_at.ensures.on c.self.invariant
