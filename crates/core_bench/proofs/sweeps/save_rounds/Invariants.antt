use Rattle.std.proofs.Common.{◌≡◌}
use Rattle.core_bench.specs.Hands.{CoreGoesOn, HasRegion}
use Rattle.core_bench.proofs.sweeps.save_rounds.Given as goal

abbrev pub invariant-loop : goal.invariant-loop
invariant-loop g l = CoreGoesOn l.initial.stripe l.stripe × HasRegion l.stripe.setup 0 l.pages × (l.stripe.setup ≡ l.initial.stripe.setup)
