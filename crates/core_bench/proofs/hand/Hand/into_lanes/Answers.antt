use Rattle.core_bench.proofs.Resting.{home}
use Rattle.core_bench.proofs.hand.Hand.into_lanes.Goals as goal

pub into_lanes-requires : goal.into_lanes-requires
into_lanes-requires g c = record { home = λ r below. home c.self.inside.stripe r c.readers_agree.ensures c.self.invariant.0 below }
