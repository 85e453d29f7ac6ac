use Rattle.std.proofs.Common.{◌+◌, ◌≤◌}
use Rattle.std.specs.Prelude.{vec_len, vec_capacity}
use Rattle.stripe_core.proofs.Making.{TakenSoFar}
use Rattle.stripe_core.proofs.stripe.Stripe.into_lanes.Given as goal

abbrev pub decreases-loop-region : goal.decreases-loop-region
decreases-loop-region g l = vec_len l.regions

abbrev pub invariant-loop-region : goal.invariant-loop-region
invariant-loop-region g l = record {
  so_far : TakenSoFar g.S.Store.seen l.initial.regions.items l.regions.items l.home.items;
  room : vec_len l.regions + vec_len l.home ≤ vec_capacity l.home;
}
