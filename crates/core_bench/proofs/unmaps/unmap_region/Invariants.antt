use Rattle.std.proofs.Common.{◌≡◌, ◌≤◌, ◌^◌}
use Rattle.core_bench.specs.Hands.{CoreGoesOn, Stands}
use Rattle.core_bench.proofs.unmaps.unmap_region.Given as goal

abbrev pub invariant-loop : goal.invariant-loop
invariant-loop g l = CoreGoesOn l.initial.stripe l.stripe × Stands l.stripe × (l.stripe.setup ≡ l.initial.stripe.setup) × (l.stripe.events ≤ 2 ^ 61)
