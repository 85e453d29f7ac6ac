use Rattle.std.proofs.Common.{◌≡◌, [], length}
use Rattle.turn_lock.specs.Seen.{IsPassOf}
use Rattle.locked_stripe.specs.InsideWalks.{CoversUpTo}
use Rattle.locked_stripe.specs.Walks.{WalkWent, flushes}
use Rattle.locked_stripe.proofs.flushes.flush_in.Given as goal

abbrev pub invariant-loop : goal.invariant-loop
invariant-loop g l = IsPassOf l.lock l.pass × (length l.scratch ≡ length l.initial.scratch) × WalkWent flushes [] 0 l.initial.pass l.pass × CoversUpTo l.initial.pass.seen l.pass.seen l.last
