use Rattle.std.proofs.Common.{◌≡◌, ◌≤◌, length}
use Rattle.core_bench.specs.Hands.{CoreGoesOn, HasRegion}
use Rattle.core_bench.proofs.sweeps.load_each.Given as goal

abbrev pub invariant-loop-page : goal.invariant-loop-page
invariant-loop-page g l = CoreGoesOn l.initial.stripe l.stripe × HasRegion l.stripe.setup 0 l.pages × (l.stripe.setup ≡ l.initial.stripe.setup) × (l.hits ≤ l.page) × (length l.buf ≡ length l.initial.buf)
