-- What contracts see of a lock, of a pass and of a closed lock, and the words that they share.
use Rattle.std.specs.Prelude.{◌≡◌, ◌≢◌, ℕ, ◌+◌, ◌-◌, ◌≤◌, Bool, true, false, ltb, if◌then◌else◌, List, [], ◌∷◌, ◌++◌, length, slice_get, Some}
use Rattle.std.specs.Borrow.{GName}
use Rattle.atomic_table.specs.Seated.{TableId}
use Rattle.histories.specs.Histories.{History, calls_of, GoesOn}
use Rattle.turn_lock.specs.declared.view.Ended.{Ended}

-- a lock: which one it is, the value that it was made with, and how many passes and holds of each there may be
pub record LockSeen (T : Type 0) : Type 0 where
  pub table : TableId
  pub origin : T
  pub seats : ℕ
  pub holds : ℕ

-- a pass: its lock and its number, the passes that it may split off and those that are still out, the holds that it made,
-- the history that it has seen, its own entries, the passes that were folded into it, and whether it is in a hold
pub record PassSeen (T E : Type 0) : Type 0 where
  pub lock : LockSeen T
  pub number : ℕ
  pub spare : ℕ
  pub out : ℕ
  pub holds : ℕ
  pub seen : History E
  pub mine : List E
  pub ended : List (Ended E)
  pub inside : Bool

-- a hold: its lock, its pass as it is in the hold, and the name of the reference to that pass
pub record HeldSeen (T E : Type 0) : Type 0 where
  pub lock : LockSeen T
  pub pass : PassSeen T E
  pub name : GName

module _ {T E : Type 0} where
  -- the pass is of this lock, and in no hold
  abbrev pub IsPassOf : LockSeen T → PassSeen T E → Type 0
  IsPassOf lock pass = (pass.lock ≡ lock) × (pass.inside ≡ false)

  -- the pass is of this lock, and in a hold of it
  abbrev pub IsInHold : LockSeen T → PassSeen T E → Type 0
  IsInHold lock pass = (pass.lock ≡ lock) × (pass.inside ≡ true)

  -- the pass that a new lock comes with
  abbrev pub first_pass : LockSeen T → PassSeen T E
  first_pass lock = record { lock = lock; number = 0; spare = lock.seats - 1; out = 0; holds = 0; seen = []; mine = []; ended = []; inside = false }

  -- the pass in a hold whose history is h
  abbrev pub holding : PassSeen T E → History E → PassSeen T E
  holding pass h = record pass { holds = pass.holds + 1; seen = h; inside = true }

  -- the pass after a hold that ended with an entry
  abbrev pub given : PassSeen T E → E → PassSeen T E
  given pass e = record pass { seen = (pass.number, e) ∷ pass.seen; mine = e ∷ pass.mine; inside = false }

  -- the pass after a hold that ended with none
  abbrev pub left_off : PassSeen T E → PassSeen T E
  left_off pass = record pass { inside = false }

  -- the pass after it split one off
  abbrev pub split_once : PassSeen T E → PassSeen T E
  split_once pass = record pass { spare = pass.spare - 1; out = pass.out + 1 }

  -- the pass that is split off: its number is the next one, it has seen as much, and made nothing
  abbrev pub newcomer : PassSeen T E → PassSeen T E
  newcomer pass = record { lock = pass.lock; number = pass.lock.seats - pass.spare; spare = 0; out = 0; holds = 0; seen = pass.seen; mine = []; ended = []; inside = false }

module _ {E : Type 0} where
  -- of two histories of one lock, the one that goes on from the other
  abbrev pub longer : History E → History E → History E
  longer g h = if ltb (length g) (length h) then h else g

module _ {T E : Type 0} where
  -- what is kept of a pass that was folded back
  abbrev pub ended_of : PassSeen T E → Ended E
  ended_of pass = record { number = pass.number; mine = pass.mine; holds = pass.holds; seen = pass.seen }

  -- the first pass after another was folded into it
  abbrev pub folded : PassSeen T E → PassSeen T E → PassSeen T E
  folded pass other = record pass { out = pass.out - 1; seen = longer pass.seen other.seen; ended = pass.ended ++ ended_of other ∷ [] }

module _ {E : Type 0} where
  -- each ended pass has its entries in the history, and they are its calls there
  abbrev pub HaveTheirCalls : History E → List (Ended E) → Type 0
  HaveTheirCalls h ended = (i : ℕ) (e : Ended E) → slice_get ended i ≡ Some e → calls_of e.number h ≡ e.mine

  -- what each ended pass had seen is a part of the history
  abbrev pub HaveTheirParts : History E → List (Ended E) → Type 0
  HaveTheirParts h ended = (i : ℕ) (e : Ended E) → slice_get ended i ≡ Some e → GoesOn e.seen h

  -- no ended pass made more holds than this
  abbrev pub MadeAtMost : ℕ → List (Ended E) → Type 0
  MadeAtMost most ended = (i : ℕ) (e : Ended E) → slice_get ended i ≡ Some e → e.holds ≤ most

  -- the numbers of the ended passes go from 1 to as many as there are, and differ
  pub record AreNumbered (ended : List (Ended E)) : Type 0 where
    pub within : (i : ℕ) (e : Ended E) → slice_get ended i ≡ Some e → (1 ≤ e.number) × (e.number ≤ length ended)
    pub differ : (i j : ℕ) (e f : Ended E) → slice_get ended i ≡ Some e → slice_get ended j ≡ Some f → e.number ≡ f.number → i ≡ j

  -- each owner in the history is the first pass or an ended one
  abbrev pub OwnersAreKnown : History E → List (Ended E) → Type 0
  OwnersAreKnown h ended = (o : ℕ) → o ≢ 0 → ((i : ℕ) (e : Ended E) → slice_get ended i ≡ Some e → e.number ≢ o) → calls_of o h ≡ []
