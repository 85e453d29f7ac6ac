-- What a job that adds numbers leaves of its pass.
use Rattle.std.specs.Prelude.{◌≡◌, ℕ, Bool, true}
use Rattle.turn_lock.specs.Seen.{LockSeen, PassSeen, IsPassOf}
use Rattle.locked_list.specs.Numbers.{down_from}

module _ {T : Type 0} where
  -- the pass is as before but for what it saw and made
  abbrev pub IsSameBut : PassSeen T ℕ → PassSeen T ℕ → Type 0
  IsSameBut old new = (new.number ≡ old.number) × (new.spare ≡ old.spare) × (new.out ≡ old.out) × (new.ended ≡ old.ended)

  -- where the job is done it made the numbers below `count`, and no other entry
  abbrev pub HasAdded : ℕ → PassSeen T ℕ → Bool → Type 0
  HasAdded count pass done = done ≡ true → pass.mine ≡ down_from count

  -- its job leaves the pass so: out of any hold, as it was but for what it saw and made, and with all numbers made where it is done
  abbrev pub Leaves : LockSeen T → ℕ → (old new : PassSeen T ℕ) → Bool → Type 0
  Leaves lock count old new done = IsPassOf lock new × IsSameBut old new × HasAdded count new done
