use Rattle.std.proofs.Common.{◌≡◌, ◌≤◌, ◌^◌}
use Rattle.core_bench.specs.Hands.{CoreGoesOn, Stands}
use Rattle.core_bench.proofs.unmaps.unmap_below.Given as goal

abbrev pub invariant-loop-region : goal.invariant-loop-region
invariant-loop-region g l = CoreGoesOn l.initial.stripe l.stripe × Stands l.stripe × (l.stripe.setup ≡ l.initial.stripe.setup) × (l.stripe.events ≤ 2 ^ 61)
