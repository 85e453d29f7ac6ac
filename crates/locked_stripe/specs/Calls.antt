-- What a call did in its stripe: a step of service, and an access of one piece.
use Rattle.std.specs.Prelude.{ℕ, ⊤, ◌+◌, ◌*◌, ◌<◌, ◌≤◌, ◌≡◌, ◌⊎◌, ◌&&◌, ◌||◌, Bool, true, false, List, [], ◌∷◌, ◌++◌, filter, length, Option, Some, None}
use Rattle.std.specs.List.{list_all}
use Rattle.histories.specs.Histories.{History, GoesOn, Alone, HasNew}
use Rattle.page_base.specs.Pages.{same}
use Rattle.page_base.specs.declared.keys.Key.{Key}
use Rattle.page_base.specs.declared.keys.Why.{Why}
use Rattle.page_base.specs.declared.keys.Why.TheVariants as why
use Rattle.page_model.specs.declared.entry.Cause.{Cause}
use Rattle.page_model.specs.declared.entry.Cause.TheVariants.{Pressure}
use Rattle.page_model.specs.declared.entry.Entry.{Entry}
use Rattle.page_model.specs.declared.entry.Entry.TheVariants.{Load, Save, Raised, StartRead, Filled, Opened, Dropped, ReadFailed, WriteFailed, StartWrite, Evicted, Written, Hint, Closing, Unmapped}
use Rattle.page_model.specs.Closings.{is_closing}
use Rattle.page_model.specs.Entries.{is_access}
use Rattle.page_model.specs.Faults.{pending}
use Rattle.page_model.specs.InFlight.{is_home}
use Rattle.page_model.specs.StoreFaults.{read_fault}
use Rattle.turn_lock.specs.Seen.{PassSeen}
use Rattle.locked_stripe.specs.declared.answers.Access.{Access}
use Rattle.locked_stripe.specs.declared.answers.Access.TheVariants as access
use Rattle.locked_stripe.specs.Holds.{PassGrew}
use Rattle.locked_stripe.specs.WholeTrips.{trips_are_whole}

-- ---- kinds of entries

abbrev pub is_for_room : Cause → Bool
is_for_room Pressure = true
is_for_room cause = false

-- what serves faults and makes room for that
abbrev pub is_help : Entry → Bool
is_help (StartRead k) = true
is_help (Filled k) = true
is_help (ReadFailed k n) = true
is_help (Opened k) = true
is_help (Dropped k) = true
is_help (StartWrite k cause) = is_for_room cause
is_help (Written k at bytes) = true
is_help (WriteFailed k n) = true
is_help (Evicted k cause) = is_for_room cause
is_help e = false

-- why a load raises its page's fault, and why a store does
abbrev pub for_load : Why → Bool
for_load why.Read = true
for_load reason = false

abbrev pub for_store : Why → Bool
for_store why.Write = true
for_store why.Protected = true
for_store reason = false

-- what an access of page k makes beside itself: its fault, and services
abbrev pub is_try : Key → (Why → Bool) → Entry → Bool
is_try k reasons (Raised j reason) = same j k && reasons reason
is_try k reasons e = is_help e

-- ---- whom a fault tells of

abbrev pub Blames : Key → (owner : ℕ) → Key → (count : ℕ) → ℕ × Entry → Type 0
Blames k owner j n x = ((j ≡ k) × (x.1 ≡ ReadFailed j n)) ⊎ ((x.0 ≡ owner) × (x.1 ≡ WriteFailed j n))

-- every lane is home
abbrev pub AllHome : History Entry → Type 0
AllHome h = (r : ℕ) → is_home h r ≡ true

module _ {T : Type 0} where
  -- why a call ended early
  abbrev pub Because : (old new : PassSeen T Entry) → Key → Access → Type 0
  Because old new k access.OutOfRange = ⊥
  Because old new k access.ReadOnly = ⊥
  Because old new k access.PassSpent = new.lock.holds < new.holds + 2
  Because old new k access.Unmapped = is_closing new.seen k.region ≡ true
  Because old new k (access.StoreFault j n) = HasNew (Blames k old.number j n) old.seen new.seen

  -- An access of page k, done or not. `own` are its entries, the newest first, with whole trips alone, and `accesses` the
  -- accesses among them.
  -- Where nobody else makes an entry and every lane was home, it makes at most so many holds, and leaves every lane home.
  pub record PieceWent (k : Key) (reasons : Why → Bool) (old new : PassSeen T Entry) (accesses : List Entry) : Type 0 where
    pub times : ℕ
    pub own : List Entry
    pub helped : List Entry
    pub grew : PassGrew old new times own
    pub own_are : own ≡ accesses ++ helped
    pub kinds : list_all (is_try k reasons) helped ≡ true
    pub whole : trips_are_whole own ≡ true
    pub bound : Alone old.number old.seen new.seen → AllHome old.seen → (times ≤ 6 * (length own + 1)) × (times ≤ 4 * (length own + 1))

  -- Where nobody else makes an entry and every lane was home, a call made at most four holds for each of its entries, and every
  -- lane is home again.
  pub record HoldsAreFew (old new : PassSeen T Entry) : Type 0 where
    pub few : Alone old.number old.seen new.seen → AllHome old.seen → (new.holds + 4 * length old.mine ≤ old.holds + 4 * length new.mine) × AllHome new.seen

  pub record PieceStopped (k : Key) (reasons : Why → Bool) (old new : PassSeen T Entry) (why : Access) : Type 0 where
    pub went : PieceWent k reasons old new []
    pub because : Because old new k why
