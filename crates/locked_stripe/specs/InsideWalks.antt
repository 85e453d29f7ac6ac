-- What one hold and one turn of a walk over a stripe did.
use Rattle.std.specs.Prelude.{ℕ, ◌<◌, ◌≤◌, ◌≡◌, ◌==◌, ◌&&◌, Bool, true, false, List, [], ◌∷◌, ◌++◌, length, Option}
use Rattle.histories.specs.Histories.{History, GoesOn, by}
use Rattle.page_base.specs.declared.keys.Key.{Key}
use Rattle.page_base.specs.KeyOrder.{is_below, is_past}
use Rattle.page_model.specs.declared.entry.Cause.TheVariants.{Flush, Unmap}
use Rattle.page_model.specs.declared.entry.Entry.{Entry}
use Rattle.page_model.specs.declared.entry.Entry.TheVariants.{StartWrite, Written, WriteFailed, Dropped, Evicted, Closing, Unmapped}
use Rattle.page_model.specs.Closings.{is_unmapped}
use Rattle.page_model.specs.Flushed.{IsFlushed, is_page_covered}
use Rattle.page_model.specs.Setups.{Setup, has_page}
use Rattle.page_model.specs.Trips.{Trip}
use Rattle.turn_lock.specs.Seen.{PassSeen}
use Rattle.locked_stripe.specs.declared.answers.FlushRest.{FlushRest}
use Rattle.locked_stripe.specs.declared.answers.FlushRest.TheVariants as rest
use Rattle.locked_stripe.specs.declared.answers.FlushTurn.{FlushTurn}
use Rattle.locked_stripe.specs.declared.answers.FlushTurn.TheVariants as flush
use Rattle.locked_stripe.specs.declared.answers.UnmapStep.{UnmapStep}
use Rattle.locked_stripe.specs.declared.answers.UnmapStep.TheVariants as step
use Rattle.locked_stripe.specs.declared.answers.UnmapTurn.{UnmapTurn}
use Rattle.locked_stripe.specs.declared.answers.UnmapTurn.TheVariants as unmap
use Rattle.locked_stripe.specs.Calls.{AllHome}
use Rattle.locked_stripe.specs.InsideHolds.{OneHold}
use Rattle.locked_stripe.specs.Walks.{WalkWent, WalkFailed, flushes, is_of_unmapping, is_for_unmap, FoundMapped, Began}

-- ---- a flush

-- the turn of a flush whose look began no write
abbrev pub rested : Option Key → FlushRest → FlushTurn
rested after rest.Clean = flush.Done
rested after rest.Away = flush.Went after

-- the page's stores, of whatever history that went on to this one, are written back
pub record IsCovered (h : History Entry) (k : Key) : Type 0 where
  pub all : (seen : History Entry) → GoesOn seen h → is_page_covered h k seen ≡ true

-- so they are for the pages up to one
pub record CoversUpTo (seen h : History Entry) (after : Option Key) : Type 0 where
  pub covered : (k : Key) → is_past after k ≡ false → is_page_covered h k seen ≡ true

-- for all pages past one
pub record CoversRest (h : History Entry) (after : Option Key) : Type 0 where
  pub covered : (k : Key) → is_past after k ≡ true → IsCovered h k

-- for the pages between one and the page of this trip, which starts now
pub record IsNextTrip (u : Setup) (h : History Entry) (after : Option Key) (t : Trip) : Type 0 where
  pub at : t.at ≡ length h
  pub page : has_page u t.key ≡ true
  pub between : (k : Key) → is_past after k ≡ true → is_below k t.key ≡ true → IsCovered h k

module _ {T : Type 0} where
  -- a hold began to write the next dirty page
  abbrev pub BeginsFlush : Setup → Option Key → (old new : PassSeen T Entry) → Trip → Type 0
  BeginsFlush u after old new t = (h : History Entry) × OneHold old new h (StartWrite t.key Flush ∷ []) × IsNextTrip u h after t

  -- a hold found that there is none, or that its lane is out
  abbrev pub FlushRests : Option Key → (old new : PassSeen T Entry) → FlushRest → Type 0
  FlushRests after old new rest.Clean = (h : History Entry) × OneHold old new h [] × CoversRest h after
  FlushRests after old new rest.Away = (h : History Entry) × OneHold old new h [] × (AllHome h → ⊥)

  abbrev pub FlushTurns : Setup → Option Key → (old new : PassSeen T Entry) → FlushTurn → Type 0
  FlushTurns u after old new flush.Done =
      WalkWent flushes [] 1 old new × ((seen : History Entry) → GoesOn seen old.seen → CoversUpTo seen old.seen after → IsFlushed new.seen seen)
  FlushTurns u after old new (flush.Went next) =
      WalkWent flushes [] 0 old new × ((seen : History Entry) → GoesOn seen old.seen → CoversUpTo seen old.seen after → CoversUpTo seen new.seen next)
  FlushTurns u after old new (flush.Failed k n) = WalkFailed flushes u k n old new

-- ---- an unmapping

-- the turn of an unmapping whose hold began no write
abbrev pub stepped : UnmapStep → UnmapTurn
stepped step.Gone = unmap.Gone
stepped step.Done = unmap.Done
stepped step.Went = unmap.Went

-- at most one entry, which goes ahead with the unmapping of region r
abbrev pub is_step : (region : ℕ) → List Entry → Bool
is_step r [] = true
is_step r (Closing q ∷ []) = q == r
is_step r (Dropped k ∷ []) = true
is_step r (Evicted k cause ∷ []) = (k.region == r) && is_for_unmap cause
is_step r es = false

module _ {T : Type 0} where
  -- a hold of an unmapping; it does nothing only where a lane is out
  pub record UnmapGoes (r : ℕ) (old new : PassSeen T Entry) : Type 0 where
    pub found : History Entry
    pub own : List Entry
    pub held : OneHold old new found own
    pub mapped : is_unmapped found r ≡ false
    pub step : is_step r own ≡ true
    pub some : AllHome found → 1 ≤ length own

  pub record BeginsUnmap (u : Setup) (r : ℕ) (old new : PassSeen T Entry) (k : Key) : Type 0 where
    pub found : History Entry
    pub held : OneHold old new found (StartWrite k Unmap ∷ [])
    pub mapped : is_unmapped found r ≡ false
    pub page : has_page u k ≡ true
    pub region : k.region ≡ r

  abbrev pub UnmapSteps : (region : ℕ) → (old new : PassSeen T Entry) → UnmapStep → Type 0
  UnmapSteps r old new step.Gone = (h : History Entry) × OneHold old new h [] × (is_unmapped h r ≡ true)
  UnmapSteps r old new step.Done = (h : History Entry) × OneHold old new h (Unmapped r ∷ []) × (is_unmapped h r ≡ false)
  UnmapSteps r old new step.Went = UnmapGoes r old new

  abbrev pub UnmapTurns : Setup → (region : ℕ) → (old new : PassSeen T Entry) → UnmapTurn → Type 0
  UnmapTurns u r old new unmap.Gone = (went : WalkWent (is_of_unmapping r) [] 1 old new) × (went.own ≡ []) × (is_unmapped new.seen r ≡ true)
  UnmapTurns u r old new unmap.Done = WalkWent (is_of_unmapping r) [] 0 old new × FoundMapped r old new × (is_unmapped new.seen r ≡ true)
  UnmapTurns u r old new unmap.Went = WalkWent (is_of_unmapping r) [] 0 old new × FoundMapped r old new
  UnmapTurns u r old new (unmap.Failed k n) = WalkFailed (is_of_unmapping r) u k n old new × FoundMapped r old new × (k.region ≡ r)

  -- an unmapping so far
  pub record UnmapsSoFar (r : ℕ) (fresh : Bool) (old now : PassSeen T Entry) : Type 0 where
    pub went : WalkWent (is_of_unmapping r) [] 0 old now
    pub began : Began fresh r old now went.own
