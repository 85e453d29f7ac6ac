-- What no entry changes of a stripe that lies under its lock.
use Rattle.std.specs.Prelude.{ℕ, []}
use Rattle.page_model.specs.Setups.{Setup}
use Rattle.turn_lock.specs.Seen.{LockSeen}
use Rattle.locked_stripe.specs.declared.stripe_box.StripeBox.{StripeBox}

-- the stripe's setup, and what its journal was made with
pub record TermsSeen (M : Type 0) : Type 0 where
  pub setup : Setup
  pub made : M

-- a setup with a number and nothing else
abbrev pub unset : ℕ → Setup
unset number = record { page_size = 0; stripes = 0; frames = 0; number = number; faults = 0; high = 0; low = 0; shapes = []; lanes = [] }

-- the setup of the stripe that a lock was made with
abbrev pub locked_setup : {S J : Type 0} → LockSeen (StripeBox S J) → Setup
locked_setup lock = lock.origin.noted.value.stripe.setup
