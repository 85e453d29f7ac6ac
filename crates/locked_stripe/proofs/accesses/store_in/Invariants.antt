use Rattle.std.proofs.Common.{◌≡◌, length}
use Rattle.turn_lock.specs.Seen.{IsPassOf}
use Rattle.locked_stripe.specs.Calls.{for_store}
use Rattle.locked_stripe.specs.InsideCalls.{TriesPiece}
use Rattle.locked_stripe.proofs.accesses.store_in.Given as goal

abbrev pub invariant-loop : goal.invariant-loop
invariant-loop g l =
    IsPassOf l.lock l.pass × (length l.scratch ≡ length l.initial.scratch) × TriesPiece l.key for_store l.initial.pass l.pass l.before
