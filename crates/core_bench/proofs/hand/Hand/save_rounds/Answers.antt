use Rattle.core_bench.proofs.Kept.{goes}
use Rattle.core_bench.proofs.hand.Hand.save_rounds.Goals as goal

pub invariant_of-self : goal.invariant_of-self
invariant_of-self g c = goes _ _ _ _ _ _ c.save_rounds.ensures.on c.self.invariant
