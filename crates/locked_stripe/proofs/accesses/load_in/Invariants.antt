use Rattle.std.proofs.Common.{◌≡◌, length}
use Rattle.turn_lock.specs.Seen.{IsPassOf}
use Rattle.locked_stripe.specs.Calls.{for_load}
use Rattle.locked_stripe.specs.InsideCalls.{TriesPiece}
use Rattle.locked_stripe.proofs.accesses.load_in.Given as goal

abbrev pub invariant-loop : goal.invariant-loop
invariant-loop g l =
    IsPassOf l.lock l.pass × (length l.scratch ≡ length l.initial.scratch) × (l.buf ≡ l.initial.buf) × TriesPiece l.key for_load l.initial.pass l.pass l.before
