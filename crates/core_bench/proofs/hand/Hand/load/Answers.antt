use Rattle.core_bench.proofs.Kept.{goes}
use Rattle.core_bench.proofs.hand.Hand.load.Goals as goal

pub invariant_of-self : goal.invariant_of-self
invariant_of-self g c = goes _ _ _ _ _ _ c.load_at.ensures.on c.self.invariant
