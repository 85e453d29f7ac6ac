-- How a stripe and its journal went on in one service.
use Rattle.std.specs.Prelude.{◌≡◌, ℕ, true, false, Bool, List, [], ◌∷◌}
use Rattle.std.specs.List.{list_all, list_any}
use Rattle.histories.specs.Histories.{History}
use Rattle.page_base.specs.declared.keys.Key.{Key}
use Rattle.page_base.specs.declared.keys.Why.{Why}
use Rattle.page_model.specs.declared.entry.Cause.{Cause}
use Rattle.page_model.specs.declared.entry.Cause.TheVariants.{Flush}
use Rattle.page_model.specs.declared.entry.Entry.{Entry}
use Rattle.page_model.specs.declared.entry.Entry.TheVariants.{StartRead, Filled, ReadFailed, StartWrite, Written, WriteFailed}
use Rattle.serial_pager.specs.declared.fault.PageFault.{PageFault}
use Rattle.serial_pager.specs.Accesses.{serves, AccessFails}
use Rattle.serial_pager.specs.Seen.{StripeSeen}
use Rattle.serial_pager.specs.Goings.{Went}
use Rattle.serial_pager.specs.Writings.{flushes, is_failed_write}

module _ {J : Type 0} where
  -- By entries that all pass a test.
  pub record WentBy (owner : ℕ) (has_noted : J → History Entry → Type 0) (passes : Entry → Bool) (old new : StripeSeen J) : Type 0 where
    pub entries : List Entry
    pub pass : list_all passes entries ≡ true
    pub went : Went owner has_noted entries old new

  -- By entries that serve an access of page k, whatever it is raised for.
  abbrev pub WentServing : (owner : ℕ) (has_noted : J → History Entry → Type 0) → Key → (old new : StripeSeen J) → Type 0
  WentServing owner has_noted k old new = (reasons : Why → Bool) → WentBy owner has_noted (serves k reasons) old new

  -- By entries that serve an access of page k, which is raised for this reason among others.
  abbrev pub WentRaising : (owner : ℕ) (has_noted : J → History Entry → Type 0) → Key → Why → (old new : StripeSeen J) → Type 0
  WentRaising owner has_noted k why old new = (reasons : Why → Bool) → reasons why ≡ true → WentBy owner has_noted (serves k reasons) old new

  -- By entries that serve an access of whatever page.
  abbrev pub WentServingAny : (owner : ℕ) (has_noted : J → History Entry → Type 0) → (old new : StripeSeen J) → Type 0
  WentServingAny owner has_noted old new = (k : Key) → WentServing owner has_noted k old new

  -- A service failed, and with it the access of page k that it was for.
  abbrev pub ServiceFails : (owner : ℕ) (has_noted : J → History Entry → Type 0) → Key → (old new : StripeSeen J) → PageFault → Type 0
  ServiceFails owner has_noted k old new f = (reasons : Why → Bool) → AccessFails owner has_noted k reasons old new f

  -- A page was read in.
  abbrev pub ReadsIn : (owner : ℕ) (has_noted : J → History Entry → Type 0) → (old new : StripeSeen J) → Type 0
  ReadsIn owner has_noted old new = (k : Key) × Went owner has_noted (Filled k ∷ StartRead k ∷ []) old new

  -- A page's read failed.
  abbrev pub FailsToReadIn : (owner : ℕ) (has_noted : J → History Entry → Type 0) → (old new : StripeSeen J) → PageFault → Type 0
  FailsToReadIn owner has_noted old new f = Went owner has_noted (ReadFailed f.key f.faults ∷ StartRead f.key ∷ []) old new

  -- Page k was written back.
  abbrev pub WritesOut : (owner : ℕ) (has_noted : J → History Entry → Type 0) → Key → Cause → (old new : StripeSeen J) → Type 0
  WritesOut owner has_noted k why old new = (at : ℕ) × (bytes : List ℕ) × Went owner has_noted (Written k at bytes ∷ StartWrite k why ∷ []) old new

  -- A write of page k failed.
  abbrev pub FailsToWriteOut : (owner : ℕ) (has_noted : J → History Entry → Type 0) → Key → Cause → (old new : StripeSeen J) → PageFault → Type 0
  FailsToWriteOut owner has_noted k why old new f = Went owner has_noted (WriteFailed k f.faults ∷ StartWrite k why ∷ []) old new

  -- A write of page k for a flush failed, or the page was written back.
  abbrev pub TriesToWrite : (owner : ℕ) (has_noted : J → History Entry → Type 0) → Key → (failed : Bool) → (old new : StripeSeen J) → Type 0
  TriesToWrite owner has_noted k true old new = (f : PageFault) × FailsToWriteOut owner has_noted k Flush old new f
  TriesToWrite owner has_noted k false old new = WritesOut owner has_noted k Flush old new

  -- Dirty pages were written: by writes for a flush alone, of which one failed or none did.
  pub record WroteBack (owner : ℕ) (has_noted : J → History Entry → Type 0) (failed : Bool) (old new : StripeSeen J) : Type 0 where
    pub entries : List Entry
    pub pass : list_all flushes entries ≡ true
    pub fails : list_any is_failed_write entries ≡ failed
    pub went : Went owner has_noted entries old new
