-- What an access makes a stripe do, and how it fails.
use Rattle.std.specs.Prelude.{◌≡◌, ℕ, List, Bool, true, false, not, ◌&&◌, ◌⊎◌}
use Rattle.histories.specs.Histories.{History}
use Rattle.page_base.specs.declared.keys.Key.{Key}
use Rattle.page_base.specs.declared.keys.Why.{Why}
use Rattle.page_base.specs.declared.keys.Why.TheVariants.{Read, Write, Protected}
use Rattle.page_base.specs.Pages.{same}
use Rattle.page_model.specs.declared.entry.Cause.{Cause}
use Rattle.page_model.specs.declared.entry.Cause.TheVariants.{Pressure}
use Rattle.page_model.specs.declared.entry.Entry.{Entry}
use Rattle.page_model.specs.declared.entry.Entry.TheVariants.{Load, Save, Raised, StartRead, Filled, Opened, Dropped, ReadFailed, WriteFailed, StartWrite, Evicted, Written}
use Rattle.serial_pager.specs.declared.fault.PageFault.{PageFault}
use Rattle.serial_pager.specs.Seen.{StripeSeen}
use Rattle.serial_pager.specs.Goings.{WentTo}

abbrev pub is_read : Why → Bool
is_read Read = true
is_read why = false

abbrev pub is_for_store : Why → Bool
is_for_store Write = true
is_for_store Protected = true
is_for_store why = false

abbrev pub is_pressure : Cause → Bool
is_pressure Pressure = true
is_pressure why = false

-- The entry serves an access of page k, which is raised for these reasons alone: nothing is loaded, stored, hinted, closed or
-- unmapped, no write fails, and no read of page k does.
abbrev pub serves : Key → (reasons : Why → Bool) → Entry → Bool
serves k reasons (Raised j why) = same j k && reasons why
serves k reasons (StartRead j) = true
serves k reasons (Filled j) = true
serves k reasons (ReadFailed j n) = not (same j k)
serves k reasons (Opened j) = true
serves k reasons (Dropped j) = true
serves k reasons (StartWrite j why) = is_pressure why
serves k reasons (Written j at bytes) = true
serves k reasons (Evicted j why) = is_pressure why
serves k reasons e = false

module _ {J : Type 0} where
  -- a read of the page itself failed
  pub record ReadFails (owner : ℕ) (has_noted : J → History Entry → Type 0) (k : Key) (reasons : Why → Bool) (old new : StripeSeen J) (f : PageFault) : Type 0 where
    pub key : f.key ≡ k
    pub went : WentTo owner has_noted (serves k reasons) (ReadFailed f.key f.faults) old new

  -- an access of page k failed: at a read of the page itself, or at a write that was to make room
  abbrev pub AccessFails : (owner : ℕ) (has_noted : J → History Entry → Type 0) → Key → (reasons : Why → Bool) → (old new : StripeSeen J) → PageFault → Type 0
  AccessFails owner has_noted k reasons old new f =
      ReadFails owner has_noted k reasons old new f ⊎ WentTo owner has_noted (serves k reasons) (WriteFailed f.key f.faults) old new

  -- a load of these bytes of page k, behind what served it
  abbrev pub Loads : (owner : ℕ) (has_noted : J → History Entry → Type 0) → Key → (place : ℕ) → List ℕ → (old new : StripeSeen J) → Type 0
  Loads owner has_noted k place bytes = WentTo owner has_noted (serves k is_read) (Load k place bytes)

  -- a store of these bytes to page k, behind what served it
  abbrev pub Stores : (owner : ℕ) (has_noted : J → History Entry → Type 0) → Key → (place : ℕ) → List ℕ → (old new : StripeSeen J) → Type 0
  Stores owner has_noted k place bytes = WentTo owner has_noted (serves k is_for_store) (Save k place bytes)
