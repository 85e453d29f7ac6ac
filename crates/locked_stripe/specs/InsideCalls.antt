-- What a step of service for an access did, and an access so far.
use Rattle.std.specs.Prelude.{ℕ, ⊤, ◌*◌, ◌<◌, ◌≤◌, ◌≡◌, Bool, true, false, if◌then◌else◌, List, length, Option, Some, None}
use Rattle.std.specs.List.{list_all}
use Rattle.histories.specs.Histories.{History, GoesOn, Alone}
use Rattle.page_base.specs.Pages.{same}
use Rattle.page_base.specs.declared.keys.Key.{Key}
use Rattle.page_base.specs.declared.keys.Why.{Why}
use Rattle.page_model.specs.declared.entry.Entry.{Entry}
use Rattle.page_model.specs.Faults.{pending}
use Rattle.page_model.specs.StoreFaults.{read_fault}
use Rattle.turn_lock.specs.Seen.{PassSeen}
use Rattle.locked_stripe.specs.declared.answers.Access.{Access}
use Rattle.locked_stripe.specs.declared.answers.Served.{Served}
use Rattle.locked_stripe.specs.declared.answers.Served.TheVariants as served
use Rattle.locked_stripe.specs.declared.answers.Back.{Back}
use Rattle.locked_stripe.specs.declared.answers.Back.TheVariants as back
use Rattle.locked_stripe.specs.Calls.{AllHome, Because, is_help, is_try}
use Rattle.locked_stripe.specs.Holds.{PassGrew}
use Rattle.locked_stripe.specs.WholeTrips.{trips_are_whole}

-- the number of the failed read of this page that the answer tells of
abbrev pub failed_read : Key → Served → Option ℕ
failed_read k (served.ReadFailed j n) = if same j k then Some n else None
failed_read k s = None

abbrev pub is_room : Served → Bool
is_room served.Room = true
is_room s = false

-- the page of a failed write, and its number
abbrev pub failed_write : Back → Option (Key × ℕ)
failed_write (back.WriteFailed k n) = Some (k, n)
failed_write b = None

-- the number of the page's last failed read that the first look kept
abbrev pub KeepsFault : Key → (old now : History Entry) → Option ℕ → Type 0
KeepsFault k old now None = ⊤
KeepsFault k old now (Some n) = (h : History Entry) × GoesOn old h × GoesOn h now × (n ≡ read_fault h k)

module _ {T : Type 0} where
  -- a step of service: at most three holds
  pub record Helps (old new : PassSeen T Entry) : Type 0 where
    pub times : ℕ
    pub own : List Entry
    pub grew : PassGrew old new times own
    pub few : times ≤ 3
    pub kinds : list_all is_help own ≡ true
    pub whole : trips_are_whole own ≡ true

  -- where nobody else makes an entry, every lane is home and a fault waits, it makes an entry and leaves every lane home
  abbrev pub AdvancesAlone : (old new : PassSeen T Entry) → List Entry → Type 0
  AdvancesAlone old new own = Alone old.number old.seen new.seen → AllHome old.seen → 0 < length (pending old.seen) → (1 ≤ length own) × AllHome new.seen

  pub record Helped (old new : PassSeen T Entry) : Type 0 where
    pub helps : Helps old new
    pub ahead : AdvancesAlone old new helps.own

  pub record HelpStopped (old new : PassSeen T Entry) (k : Key) (why : Access) : Type 0 where
    pub helps : Helps old new
    pub because : Because old new k why

  -- an access of page k so far: each turn but the last makes an entry, and at most four holds
  pub record TriesPiece (k : Key) (reasons : Why → Bool) (old now : PassSeen T Entry) (before : Option ℕ) : Type 0 where
    pub times : ℕ
    pub own : List Entry
    pub grew : PassGrew old now times own
    pub kinds : list_all (is_try k reasons) own ≡ true
    pub whole : trips_are_whole own ≡ true
    pub keeps : KeepsFault k old.seen now.seen before
    pub bound : Alone old.number old.seen now.seen → AllHome old.seen → (times ≤ 4 * length own) × AllHome now.seen
