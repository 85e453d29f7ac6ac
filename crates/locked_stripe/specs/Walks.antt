-- What a walk over one stripe did: a flush, and the unmapping of a region.
use Rattle.std.specs.Prelude.{ℕ, ◌+◌, ◌<◌, ◌≤◌, ◌≡◌, ◌==◌, ◌&&◌, Bool, true, false, List, [], ◌∷◌, ◌++◌, length}
use Rattle.std.specs.List.{list_all}
use Rattle.histories.specs.Histories.{History, GoesOn, Alone, IsNew}
use Rattle.page_base.specs.declared.keys.Key.{Key}
use Rattle.page_model.specs.declared.entry.Cause.{Cause}
use Rattle.page_model.specs.declared.entry.Cause.TheVariants.{Flush, Unmap}
use Rattle.page_model.specs.declared.entry.Entry.{Entry}
use Rattle.page_model.specs.declared.entry.Entry.TheVariants.{StartWrite, Written, WriteFailed, Dropped, Evicted, Closing, Unmapped}
use Rattle.page_model.specs.Closings.{is_unmapped}
use Rattle.page_model.specs.Flushed.{IsFlushed}
use Rattle.page_model.specs.Setups.{Setup, has_page}
use Rattle.turn_lock.specs.Seen.{PassSeen}
use Rattle.locked_stripe.specs.declared.answers.Access.{Access}
use Rattle.locked_stripe.specs.declared.answers.Access.TheVariants as access
use Rattle.locked_stripe.specs.Calls.{AllHome}
use Rattle.locked_stripe.specs.Holds.{PassGrew}
use Rattle.locked_stripe.specs.WholeTrips.{trips_are_whole}

-- ---- kinds of entries

abbrev pub is_for_flush : Cause → Bool
is_for_flush Flush = true
is_for_flush cause = false

abbrev pub is_for_unmap : Cause → Bool
is_for_unmap Unmap = true
is_for_unmap cause = false

-- the entry is of a write for a flush, and no failure
abbrev pub flushes : Entry → Bool
flushes (StartWrite k cause) = is_for_flush cause
flushes (Written k at bytes) = true
flushes e = false

-- the entry drops a fault, or is of the unmapping of region r, and no failure
abbrev pub is_of_unmapping : (region : ℕ) → Entry → Bool
is_of_unmapping r (Dropped k) = true
is_of_unmapping r (Closing q) = q == r
is_of_unmapping r (StartWrite k cause) = (k.region == r) && is_for_unmap cause
is_of_unmapping r (Written k at bytes) = k.region == r
is_of_unmapping r (Evicted k cause) = (k.region == r) && is_for_unmap cause
is_of_unmapping r (Unmapped q) = q == r
is_of_unmapping r e = false

module _ {T : Type 0} where
  -- A walk so far: entries of these kinds, the newest first, in whole trips, and behind them those that failed.
  -- Where nobody else makes an entry and every lane was home, it made at most a hold for each entry and `last` more, and leaves
  -- every lane home.
  pub record WalkWent (may : Entry → Bool) (failed : List Entry) (last : ℕ) (old new : PassSeen T Entry) : Type 0 where
    pub times : ℕ
    pub own : List Entry
    pub well : List Entry
    pub grew : PassGrew old new times own
    pub own_are : own ≡ failed ++ well
    pub kinds : list_all may well ≡ true
    pub whole : trips_are_whole own ≡ true
    pub bound : Alone old.number old.seen new.seen → AllHome old.seen → (times ≤ length own + last) × AllHome new.seen

  -- the write of this page of the stripe failed, by this caller, and ended the walk
  pub record WalkFailed (may : Entry → Bool) (u : Setup) (k : Key) (n : ℕ) (old new : PassSeen T Entry) : Type 0 where
    pub went : WalkWent may (WriteFailed k n ∷ []) 0 old new
    pub page : has_page u k ≡ true
    pub is_new : IsNew (old.number, WriteFailed k n) old.seen new.seen

  -- the walk ended since fewer than two holds are left
  pub record WalkSpent (may : Entry → Bool) (old new : PassSeen T Entry) : Type 0 where
    pub went : WalkWent may [] 0 old new
    pub spent : new.lock.holds < new.holds + 2

  -- ---- a flush

  -- each store that was seen at the start stands below the start of a finished write of its page
  pub record FlushWent (old new : PassSeen T Entry) : Type 0 where
    pub went : WalkWent flushes [] 1 old new
    pub flushed : IsFlushed new.seen old.seen

  abbrev pub FlushStopped : Setup → (old new : PassSeen T Entry) → Access → Type 0
  FlushStopped u old new access.PassSpent = WalkSpent flushes old new
  FlushStopped u old new (access.StoreFault k n) = WalkFailed flushes u k n old new
  FlushStopped u old new why = ⊥

  -- ---- the unmapping of a region

  -- the first hold found that it wasn't unmapped
  pub record FoundMapped (r : ℕ) (old new : PassSeen T Entry) : Type 0 where
    pub first : History Entry
    pub past : GoesOn old.seen first
    pub onward : GoesOn first new.seen
    pub mapped : is_unmapped first r ≡ false

  -- nothing was made yet, or the first hold found that it wasn't unmapped
  abbrev pub Began : (fresh : Bool) → (region : ℕ) → (old new : PassSeen T Entry) → List Entry → Type 0
  Began true r old new own = own ≡ []
  Began false r old new own = FoundMapped r old new

  -- The region is unmapped: the first hold found it so and nothing was made, or it wasn't so then.
  pub record UnmapWent (r : ℕ) (before : Bool) (old new : PassSeen T Entry) : Type 0 where
    pub went : WalkWent (is_of_unmapping r) [] 1 old new
    pub unmapped : is_unmapped new.seen r ≡ true
    pub began : Began before r old new went.own

  pub record UnmapSpent (r : ℕ) (old new : PassSeen T Entry) : Type 0 where
    pub walk : WalkSpent (is_of_unmapping r) old new
    pub fresh : Bool
    pub began : Began fresh r old new walk.went.own

  pub record UnmapFailed (r : ℕ) (u : Setup) (k : Key) (n : ℕ) (old new : PassSeen T Entry) : Type 0 where
    pub failed : WalkFailed (is_of_unmapping r) u k n old new
    pub region : k.region ≡ r
    pub found : FoundMapped r old new

  abbrev pub UnmapStopped : Setup → (region : ℕ) → (old new : PassSeen T Entry) → Access → Type 0
  UnmapStopped u r old new access.PassSpent = UnmapSpent r old new
  UnmapStopped u r old new (access.StoreFault k n) = UnmapFailed r u k n old new
  UnmapStopped u r old new why = ⊥
