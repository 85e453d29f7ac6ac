-- The laws of legal histories, as statements. The functions of `laws` carry them.
use Rattle.std.specs.Prelude.{◌≡◌, ℕ, ◌+◌, ◌≤◌, ◌<◌, ◌⊎◌, Bool, true, false, not, ◌&&◌, ◌||◌, ◌==◌, List, ◌∷◌, ◌++◌, length, filter, slice_get, Option, Some, None}
use Rattle.std.specs.Bool.{OnTrue}
use Rattle.std.specs.List.{AllByRecursion, list_any}
use Rattle.histories.specs.Histories.{History, calls_of, by, first, GoesOn, Others, HasNew}
use Rattle.page_base.specs.declared.keys.Key.{Key}
use Rattle.page_base.specs.declared.keys.Raise.{Raise}
use Rattle.page_base.specs.declared.keys.RegionShape.{RegionShape}
use Rattle.page_base.specs.Pages.{same, stripe_of}
use Rattle.page_model.specs.declared.entry.HintAnswer.TheVariants as answer
use Rattle.page_model.specs.declared.entry.Entry.{Entry}
use Rattle.page_model.specs.declared.entry.Entry.TheVariants.{Load, Save, Raised, StartRead, ReadFailed, WriteFailed, Opened, Evicted, Written, Hint}
use Rattle.page_model.specs.declared.seen.Next.TheVariants as serve
use Rattle.page_model.specs.Setups.{Setup, Fits, regions, has_page, is_writable, is_told, first_count}
use Rattle.page_model.specs.Entries.{is_start, is_end, is_fault, key_of, region_of, accesses_of}
use Rattle.page_model.specs.Memory.{flat, kept, LoadsLatest}
use Rattle.page_model.specs.InFlight.{InFlight, in_flight, is_home, is_reading, WritesTaken}
use Rattle.page_model.specs.Residents.{residents, is_resident, reads_out, frames_held, oldest_of}
use Rattle.page_model.specs.Faults.{is_write, is_protected_why, last_why, pending, is_pending}
use Rattle.page_model.specs.Bits.{is_protected, is_dirty, written_since}
use Rattle.page_model.specs.Closings.{is_closing, is_unmapped, is_quiet}
use Rattle.page_model.specs.Evictions.{has_pressure, pick}
use Rattle.page_model.specs.Serving.{chosen, next_of, first_answer}
use Rattle.page_model.specs.StoreFaults.{last_fault, read_fault}
use Rattle.page_model.specs.Legal.{MayFollow, IsLegal}
use Rattle.page_model.specs.Flushed.{is_page_covered, IsFlushed}
use Rattle.page_model.specs.Core as core
use Rattle.page_model.specs.Core.{Core}
use Rattle.page_model.specs.Stands.{StandsFor}
use Rattle.page_model.specs.Trips.{Trip, IsOpen}

-- a history that a legal one goes on from is legal
abbrev pub PrefixIsLegal : Type 0
PrefixIsLegal = (s : Setup) (g h : History Entry) → GoesOn g h → IsLegal s h → IsLegal s g

-- never more pages resident or being read than the stripe has frames
abbrev pub NeverOverQuota : Type 0
NeverOverQuota =
    (s : Setup) (h : History Entry)
    → IsLegal s h → length (residents h) + reads_out s h ≤ frames_held s h

-- a load, wherever it stands, gives what its page held there
abbrev pub LoadsAreFlat : Type 0
LoadsAreFlat =
    (s : Setup) (later g : History Entry) (o place : ℕ) (k : Key) (bytes : List ℕ)
    → IsLegal s (later ++ (o, Load k place bytes) ∷ g) → LoadsLatest s g k place bytes

-- a write that ended well, wherever it stands, wrote what its page held at place `at`, where it started
abbrev pub WritesAreTaken : Type 0
WritesAreTaken =
    (s : Setup) (later g : History Entry) (o at : ℕ) (k : Key) (bytes : List ℕ)
    → IsLegal s (later ++ (o, Written k at bytes) ∷ g)
    → OnTrue (is_told s k) (bytes ≡ flat s (first at g) k)

-- the start of what is in flight stands in the history, and no end of its region stands after it
pub record Started (h : History Entry) (r : ℕ) (t : InFlight) : Type 0 where
  pub later : History Entry
  pub start : Entry
  pub is : h ≡ later ++ (t.owner, start) ∷ t.before
  pub starts : is_start start ≡ true
  pub key : key_of start ≡ Some t.key
  pub region : t.key.region ≡ r
  pub no_end : list_any (λ (x : ℕ × Entry). is_end x.1 && region_of x.1 == r) later ≡ false

abbrev pub InFlightIsThere : Type 0
InFlightIsThere = (h : History Entry) (r : ℕ) (t : InFlight) → in_flight h r ≡ Some t → Started h r t

-- ---- pages and entries

-- the pages that a history speaks of are the stripe's, and of one of its regions
pub record PagesAreOfStripe : Type 0 where
  pub region : (s : Setup) (k : Key) → has_page s k ≡ true → k.region < regions s
  pub stripe : (s : Setup) (k : Key) (shape : RegionShape) → slice_get s.shapes k.region ≡ Some shape
      → has_page s k ≡ true → stripe_of s.stripes shape.group k.region k.page ≡ s.number
  pub residents : (s : Setup) (h : History Entry) → IsLegal s h
      → AllByRecursion (λ (k : Key). has_page s k ≡ true) (residents h)
  pub pending : (s : Setup) (h : History Entry) → IsLegal s h
      → AllByRecursion (λ (p : Raise). has_page s p.key ≡ true) (pending h)
  pub in_flight : (s : Setup) (h : History Entry) (r : ℕ) (t : InFlight) → IsLegal s h → in_flight h r ≡ Some t
      → has_page s t.key ≡ true

-- the accesses of two stretches of a history are those of the one before those of the other
abbrev pub AccessesOfBoth : Type 0
AccessesOfBoth =
    (o : ℕ) (later old : History Entry) → accesses_of o (later ++ old) ≡ accesses_of o later ++ accesses_of o old

-- ---- a store is written back, or still dirty in memory

abbrev pub evicts : Key → ℕ × Entry → Bool
evicts k (o, Evicted j why) = same j k
evicts k e = false

-- page k is resident and dirty, and didn't leave in `later`
pub record IsHeld (h later : History Entry) (k : Key) : Type 0 where
  pub resident : is_resident h k ≡ true
  pub dirty : is_dirty h k ≡ true
  pub stayed : list_any (evicts k) later ≡ false

-- a Save stands below the start of a finished write of its page, or its page is held since
abbrev pub StoresAreHeld : Type 0
StoresAreHeld =
    (s : Setup) (later g : History Entry) (o place : ℕ) (k : Key) (bytes : List ℕ)
    → IsLegal s (later ++ (o, Save k place bytes) ∷ g)
    → (written_since (later ++ (o, Save k place bytes) ∷ g) k (length g) ≡ true) ⊎ IsHeld (later ++ (o, Save k place bytes) ∷ g) later k

-- ---- protection tracks dirtiness, and a waiting fault is served or has room made

-- a page that may be stored to is dirty
abbrev pub UnprotectedIsDirty : Type 0
UnprotectedIsDirty =
    (s : Setup) (h : History Entry) (k : Key)
    → IsLegal s h → is_protected h k ≡ false → is_dirty h k ≡ true

abbrev pub asks_open : Key → Raise → Bool
asks_open k p = is_protected_why p.why && same p.key k

-- a page that waits to be opened is protected
abbrev pub WaitingIsProtected : Type 0
WaitingIsProtected =
    (s : Setup) (h : History Entry) (k : Key)
    → IsLegal s h → list_any (asks_open k) (pending h) ≡ true → is_protected h k ≡ true

pub record GoesAhead (s : Setup) (h : History Entry) : Type 0 where
  pub something : next_of s h ≡ serve.Nothing → ⊥
  pub room : next_of s h ≡ serve.Room → (has_pressure s h ≡ true) × ((k : Key) × (pick h ≡ Some k))

-- while the lane of each region is home and a fault is pending, there is something to do; where it is to make room, there
-- is a pick
abbrev pub SomethingIsNext : Type 0
SomethingIsNext =
    (s : Setup) (h : History Entry)
    → Fits s → IsLegal s h → ((r : ℕ) → r < regions s → is_home h r ≡ true) → 0 < length (pending h) → GoesAhead s h

-- ---- an evicted page is whole in the store

-- what the store keeps of a told page that isn't resident is known, and is what the page holds
abbrev pub AbsentIsKept : Type 0
AbsentIsKept =
    (s : Setup) (h : History Entry) (k : Key)
    → Fits s → IsLegal s h → has_page s k ≡ true → is_told s k ≡ true → is_resident h k ≡ false
    → kept s h k ≡ Some (flat s h k)

-- ---- clean and dirty pages

-- a page that isn't resident is clean; what the store keeps of a clean told page is known, and is what the page holds
pub record CleanIsKept : Type 0 where
  pub absent : (s : Setup) (h : History Entry) (k : Key) → IsLegal s h → is_resident h k ≡ false → is_dirty h k ≡ false
  pub kept : (s : Setup) (h : History Entry) (k : Key) → Fits s → IsLegal s h → has_page s k ≡ true
      → is_told s k ≡ true → is_dirty h k ≡ false → kept s h k ≡ Some (flat s h k)

-- the entry raises page k for a store to it
abbrev pub raises_for_store : Key → ℕ × Entry → Bool
raises_for_store k (o, Raised j why) = same j k && (is_write why || is_protected_why why)
raises_for_store k e = false

-- a dirty page was raised for Write or Protected; so it is of a region that may be stored to
pub record DirtyIsRaised : Type 0 where
  pub raised : (s : Setup) (h : History Entry) (k : Key) → IsLegal s h → is_dirty h k ≡ true
      → list_any (raises_for_store k) h ≡ true
  pub read_only : (s : Setup) (h : History Entry) (k : Key) → IsLegal s h → is_writable s k.region ≡ false
      → is_dirty h k ≡ false

-- ---- only its owner ends an I/O in flight

-- owner o ends a read or a write of region r
abbrev pub ends : ℕ → ℕ → ℕ × Entry → Bool
ends r o x = is_end x.1 && (x.0 == o && region_of x.1 == r)

abbrev pub is_fault_of : ℕ → ℕ × Entry → Bool
is_fault_of r x = is_fault x.1 && region_of x.1 == r

-- what is in flight in region r is so still, and nothing of the region's lane has changed
pub record StaysOut (s : Setup) (g h : History Entry) (r : ℕ) (t : InFlight) : Type 0 where
  pub in_flight_is : in_flight h r ≡ Some t
  pub kept_is : (k : Key) → k.region ≡ r → kept s h k ≡ kept s g k
  pub faults_are : filter (is_fault_of r) h ≡ filter (is_fault_of r) g
  pub last_is : last_fault s h r ≡ last_fault s g r

abbrev pub LaneStaysOut : Type 0
LaneStaysOut =
    (s : Setup) (later g : History Entry) (r : ℕ) (t : InFlight)
    → IsLegal s (later ++ g) → in_flight g r ≡ Some t → list_any (ends r t.owner) later ≡ false
    → StaysOut s g (later ++ g) r t

-- where no owner's own calls have something in flight in the region, its lane is home
abbrev pub IdleLaneIsHome : Type 0
IdleLaneIsHome =
    (h : History Entry) (r : ℕ)
    → ((o : ℕ) → is_home (by o (calls_of o h)) r ≡ true) → is_home h r ≡ true

-- ---- nothing of a closing region but what unmapping needs

-- the entry loads, stores, raises, opens or starts to read a page of region r
abbrev pub uses : ℕ → Entry → Bool
uses r (Load k place bytes) = k.region == r
uses r (Save k place bytes) = k.region == r
uses r (Raised k why) = k.region == r
uses r (Hint k answer.Raised) = k.region == r
uses r (Opened k) = k.region == r
uses r (StartRead k) = k.region == r
uses r e = false

abbrev pub NothingAfterClosing : Type 0
NothingAfterClosing =
    (s : Setup) (h : History Entry) (o : ℕ) (e : Entry) (r : ℕ)
    → MayFollow s h o e → is_closing h r ≡ true → uses r e ≡ false

-- ---- closing and unmapped regions

-- a region that closes goes on closing, and an unmapped one stays so
pub record ClosingsStay : Type 0 where
  pub closing : (g h : History Entry) (r : ℕ) → GoesOn g h → is_closing g r ≡ true → is_closing h r ≡ true
  pub unmapped : (g h : History Entry) (r : ℕ) → GoesOn g h → is_unmapped g r ≡ true → is_unmapped h r ≡ true

-- nothing of region r is left: no page is resident, dirty, pending or in flight
pub record IsEmptied (h : History Entry) (r : ℕ) : Type 0 where
  pub closing : is_closing h r ≡ true
  pub quiet : is_quiet h r ≡ true
  pub home : is_home h r ≡ true
  pub absent : (k : Key) → k.region ≡ r → is_resident h k ≡ false
  pub clean : (k : Key) → k.region ≡ r → is_dirty h k ≡ false
  pub idle : (k : Key) → k.region ≡ r → is_pending h k ≡ false

abbrev pub UnmappedIsEmptied : Type 0
UnmappedIsEmptied = (s : Setup) (h : History Entry) (r : ℕ) → IsLegal s h → is_unmapped h r ≡ true → IsEmptied h r

-- region r has an oldest page, or there is a fault to drop
abbrev pub HasMoreToClear : Setup → History Entry → ℕ → Type 0
HasMoreToClear s h r = ((k : Key) × (oldest_of h r ≡ Some k)) ⊎ ((k : Key) × (next_of s h ≡ serve.Drop k))

-- so it is while a closing region with its lane home isn't quiet
abbrev pub ClosingGoesAhead : Type 0
ClosingGoesAhead =
    (s : Setup) (h : History Entry) (r : ℕ)
    → is_closing h r ≡ true → is_home h r ≡ true → is_quiet h r ≡ false → HasMoreToClear s h r

-- ---- faults of the store

-- number n of a fault of region r is at most the last, and above the count at the start or the greatest that there is
pub record IsCounted (s : Setup) (h : History Entry) (r n : ℕ) : Type 0 where
  pub most : n ≤ last_fault s h r
  pub above : (first_count s r < n) ⊎ (n ≡ 18446744073709551615)

pub record FaultsAreCounted : Type 0 where
  pub read : (s : Setup) (later g : History Entry) (o n : ℕ) (k : Key)
      → IsLegal s (later ++ (o, ReadFailed k n) ∷ g) → IsCounted s (later ++ (o, ReadFailed k n) ∷ g) k.region n
  pub write : (s : Setup) (later g : History Entry) (o n : ℕ) (k : Key)
      → IsLegal s (later ++ (o, WriteFailed k n) ∷ g) → IsCounted s (later ++ (o, WriteFailed k n) ∷ g) k.region n
  pub first : (s : Setup) (h : History Entry) (r : ℕ) → first_count s r ≤ last_fault s h r
  pub grows : (s : Setup) (g h : History Entry) (r : ℕ) → GoesOn g h → last_fault s g r ≤ last_fault s h r
  -- so where the lane's count didn't rise, its region had no fault
  pub none : (s : Setup) (h : History Entry) (r : ℕ) → IsLegal s h → last_fault s h r ≤ first_count s r
      → first_count s r < 18446744073709551615 → list_any (is_fault_of r) h ≡ false

-- where the number of a page's last failed read is another than before, that failed read is new
abbrev pub ReadFaultIsNew : Type 0
ReadFaultIsNew =
    (old new : History Entry) (k : Key)
    → GoesOn old new → (read_fault new k ≡ read_fault old k → ⊥)
    → HasNew (λ (x : ℕ × Entry). x.1 ≡ ReadFailed k (read_fault new k)) old new

-- ---- pending faults

-- the fault waits for its page to be read
abbrev pub waits_for : Key → Raise → Bool
waits_for k p = not (is_protected_why p.why) && same p.key k

-- a page that is being read, or waits to be, isn't resident; none is pending and being read
pub record WaitingIsAbsent : Type 0 where
  pub reading : (s : Setup) (h : History Entry) (k : Key) → IsLegal s h → is_reading h k ≡ true
      → is_resident h k ≡ false
  pub waiting : (s : Setup) (h : History Entry) (k : Key) → IsLegal s h → list_any (waits_for k) (pending h) ≡ true
      → is_resident h k ≡ false
  pub not_both : (s : Setup) (h : History Entry) (k : Key) → IsLegal s h → is_pending h k ≡ true
      → is_reading h k ≡ false

-- never more faults are pending than the stripe has room for
abbrev pub FewArePending : Type 0
FewArePending = (s : Setup) (h : History Entry) → IsLegal s h → length (pending h) ≤ s.faults

-- a pending fault has the why of its page's last raise
abbrev pub PendingHasLastWhy : Type 0
PendingHasLastWhy =
    (s : Setup) (h : History Entry)
    → IsLegal s h → AllByRecursion (λ (p : Raise). p.why ≡ last_why h p.key) (pending h)

-- which fault was chosen, by what is done for it
pub record ChosenKnows : Type 0 where
  pub drop : (stale servable : Option Raise) (waiting : Bool) (k : Key) → chosen stale servable waiting ≡ serve.Drop k
      → (p : Raise) × (stale ≡ Some p) × (p.key ≡ k)
  pub open_ : (stale servable : Option Raise) (waiting : Bool) (k : Key) → chosen stale servable waiting ≡ serve.Open k
      → (p : Raise) × (stale ≡ None) × (servable ≡ Some p) × (is_protected_why p.why ≡ true) × (p.key ≡ k)
  pub read : (stale servable : Option Raise) (waiting : Bool) (k : Key) → chosen stale servable waiting ≡ serve.Read k
      → (p : Raise) × (stale ≡ None) × (servable ≡ Some p) × (is_protected_why p.why ≡ false) × (p.key ≡ k)

-- a hint raises where none of the other answers applies
abbrev pub RaisedIsLast : Type 0
RaisedIsLast =
    (closing present pending full : Bool)
    → answer.Raised ≡ first_answer closing present pending full
    → (closing ≡ false) × (present ≡ false) × (pending ≡ false) × (full ≡ false)

-- ---- what a flush rests on

pub record FlushLaws : Type 0 where
  -- where a page is clean, its earlier stores are covered
  pub clean_is_covered : (s : Setup) (h seen : History Entry) (k : Key) → GoesOn seen h → IsLegal s h
      → is_dirty h k ≡ false → is_page_covered h k seen ≡ true
  -- so they stay
  pub stays_covered : (g h seen : History Entry) (k : Key) → GoesOn g h
      → is_page_covered g k seen ≡ true → is_page_covered h k seen ≡ true
  -- where a stripe shows a page as not dirty, resident or not, its earlier stores are covered
  pub not_dirty_is_covered : (h seen : History Entry) (c : Core) (k : Key) → GoesOn seen h → StandsFor h c
      → core.is_dirty c k ≡ false → is_page_covered h k seen ≡ true
  -- a finished write covers what was stored before its start, also where the page was opened since
  pub written_is_covered : (h seen : History Entry) (o at : ℕ) (k : Key) (bytes : List ℕ) → length seen ≤ at
      → is_page_covered ((o, Written k at bytes) ∷ h) k seen ≡ true
  -- and with all pages it is flushed
  pub covered_is_flushed : (h seen : History Entry) → ((k : Key) → is_page_covered h k seen ≡ true)
      → IsFlushed h seen

-- ---- what callers of a stripe need across two holds

-- the trip is open still, and what its write took is the same
pub record StaysOpen (writes : Bool) (s : Setup) (g h : History Entry) (o : ℕ) (t : Trip) : Type 0 where
  pub stays : IsOpen writes s h o t
  pub taken : (bytes : List ℕ) → WritesTaken s g t.key bytes → WritesTaken s h t.key bytes

-- an open read or write stays open while others alone make entries
abbrev pub TripsStayOpen : Type 0
TripsStayOpen =
    (writes : Bool) (g h : History Entry) (o : ℕ) (c : Core) (t : Trip)
    → Others o g h → StandsFor h c → IsOpen writes c.setup g o t → StaysOpen writes c.setup g h o t

-- a load gave what its page held, by every later history
abbrev pub LoadsWereFlat : Type 0
LoadsWereFlat =
    (g h : History Entry) (o place : ℕ) (k : Key) (bytes : List ℕ) (c : Core)
    → GoesOn ((o, Load k place bytes) ∷ g) h → StandsFor h c → LoadsLatest c.setup g k place bytes
