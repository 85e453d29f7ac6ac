use Rattle.std.proofs.Common.{◌≡◌, [], length}
use Rattle.turn_lock.specs.Seen.{IsPassOf}
use Rattle.locked_stripe.specs.InsideWalks.{UnmapsSoFar}
use Rattle.locked_stripe.proofs.unmaps.unmap_in.Given as goal

abbrev pub invariant-loop : goal.invariant-loop
invariant-loop g l = IsPassOf l.lock l.pass × (length l.scratch ≡ length l.initial.scratch) × UnmapsSoFar l.region l.fresh l.initial.pass l.pass
