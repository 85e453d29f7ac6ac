-- The events of a stripe: what each asks of the core, and that its step keeps the core standing for the history.
use Rattle.std.specs.Prelude.{ℕ, ◌+◌, ◌^◌, ◌<◌, ◌≤◌, true, false, List, [], ◌∷◌, length, slice_range, Some, option_map, ◌≡◌}
use Rattle.histories.specs.Histories.{History}
use Rattle.page_base.specs.declared.keys.Key.{Key}
use Rattle.page_base.specs.declared.keys.Why.{Why}
use Rattle.page_base.specs.declared.keys.Why.TheVariants.{Read, Write, Protected, Ahead}
use Rattle.page_base.specs.Lanes.{LaneSeen, Rose}
use Rattle.page_model.specs.declared.entry.Cause.{Cause}
use Rattle.page_model.specs.declared.entry.Cause.TheVariants.{Pressure, Flush, Unmap}
use Rattle.page_model.specs.declared.entry.Entry.{Entry}
use Rattle.page_model.specs.declared.entry.Entry.TheVariants as entry
use Rattle.page_model.specs.declared.seen.Next.TheVariants as serve
use Rattle.page_model.specs.declared.seen.Pick.{Pick}
use Rattle.page_model.specs.Setups.{Setup, Fits, regions, has_page, is_writable}
use Rattle.page_model.specs.InFlight.{WritesTaken}
use Rattle.page_model.specs.Core.{Core, Resident, is_present, is_guarded, is_dirty, is_closing, is_unmapped, is_home, is_reading, is_writing, is_pending, is_quiet, is_full, page_at, next, pick, has_pressure, hint_answer}
use Rattle.page_model.specs.Steps as step
use Rattle.page_model.specs.Stands.{StandsFor}
use Rattle.page_model.specs.Trips.{Trip, IsOpenRead, IsOpenWrite, SameLane, WithPage, OtherPages, HoldsPage}

-- ---- what each event asks

-- a page of the stripe, and at least one byte inside it
pub record InPage (s : Setup) (k : Key) (place len : ℕ) : Type 0 where
  pub page : has_page s k ≡ true
  pub some : 0 < len
  pub inside : place + len ≤ s.page_size

-- the load hits, and gives what the page's frame has from `place` on
pub record CanLoad (c : Core) (k : Key) (place : ℕ) (bytes : List ℕ) : Type 0 where
  pub in_page : InPage c.setup k place (length bytes)
  pub not_closing : is_closing c k.region ≡ false
  pub there : Resident
  pub is : page_at c k ≡ Some there
  pub gives : bytes ≡ slice_range there.bytes place (place + length bytes)

-- the store hits
pub record CanSave (c : Core) (k : Key) (place : ℕ) (bytes : List ℕ) : Type 0 where
  pub in_page : InPage c.setup k place (length bytes)
  pub writable : is_writable c.setup k.region ≡ true
  pub not_closing : is_closing c k.region ≡ false
  pub present : is_present c k ≡ true
  pub unguarded : is_guarded c k ≡ false

abbrev pub CanRaiseFor : Core → Key → Why → Type 0
CanRaiseFor c k Read = is_present c k ≡ false
CanRaiseFor c k Ahead = is_present c k ≡ false
CanRaiseFor c k Write = (is_present c k ≡ false) × (is_writable c.setup k.region ≡ true)
CanRaiseFor c k Protected = (is_guarded c k ≡ true) × (is_writable c.setup k.region ≡ true)

-- the fault is raised: it fits the page, which isn't pending or being read, and the queue has room
pub record CanRaise (c : Core) (k : Key) (why : Why) : Type 0 where
  pub page : has_page c.setup k ≡ true
  pub not_closing : is_closing c k.region ≡ false
  pub not_pending : is_pending c k ≡ false
  pub not_reading : is_reading c k ≡ false
  pub room : is_full c ≡ false
  pub fits : CanRaiseFor c k why

-- the page is picked, under pressure
pub record IsPicked (c : Core) (k : Key) : Type 0 where
  pub pressure : has_pressure c ≡ true
  pub picked : option_map (λ (p : Pick). p.key) (pick c) ≡ Some k

abbrev pub CanWriteFor : Core → Key → Cause → Type 0
CanWriteFor c k Pressure = IsPicked c k
CanWriteFor c k Unmap = is_closing c k.region ≡ true
CanWriteFor c k Flush = Unit {0}

pub record CanStartWrite (c : Core) (k : Key) (why : Cause) : Type 0 where
  pub dirty : is_dirty c k ≡ true
  pub home : is_home c k.region ≡ true
  pub fits : CanWriteFor c k why

abbrev pub CanEvictFor : Core → Key → Cause → Type 0
CanEvictFor c k Pressure = IsPicked c k
CanEvictFor c k Unmap = is_closing c k.region ≡ true
CanEvictFor c k Flush = ⊥

pub record CanEvict (c : Core) (k : Key) (why : Cause) : Type 0 where
  pub present : is_present c k ≡ true
  pub clean : is_dirty c k ≡ false
  pub not_writing : is_writing c k ≡ false
  pub fits : CanEvictFor c k why

pub record CanUnmap (c : Core) (r : ℕ) : Type 0 where
  pub region : r < regions c.setup
  pub closing : is_closing c r ≡ true
  pub first : is_unmapped c r ≡ false
  pub quiet : is_quiet c r ≡ true

-- ---- that each step keeps standing

-- a stripe that has just been made stands for no entry
abbrev pub FreshStands : Type 0
FreshStands = (s : Setup) → Fits s → StandsFor [] (step.fresh s)

abbrev pub LoadStands : Type 0
LoadStands =
    (h : History Entry) (o : ℕ) (c : Core) (k : Key) (place : ℕ) (bytes : List ℕ)
    → StandsFor h c → CanLoad c k place bytes
    → StandsFor ((o, entry.Load k place bytes) ∷ h) (step.load c)

abbrev pub SaveStands : Type 0
SaveStands =
    (h : History Entry) (o : ℕ) (c : Core) (k : Key) (place : ℕ) (bytes : List ℕ)
    → StandsFor h c → CanSave c k place bytes
    → StandsFor ((o, entry.Save k place bytes) ∷ h) (step.save c k place bytes)

abbrev pub RaiseStands : Type 0
RaiseStands =
    (h : History Entry) (o : ℕ) (c : Core) (k : Key) (why : Why)
    → StandsFor h c → CanRaise c k why → StandsFor ((o, entry.Raised k why) ∷ h) (step.raise c k why)

abbrev pub StartReadStands : Type 0
StartReadStands =
    (h : History Entry) (o : ℕ) (c : Core) (k : Key)
    → StandsFor h c → next c ≡ serve.Read k
    → StandsFor ((o, entry.StartRead k) ∷ h) (step.start_read c k)

abbrev pub FilledStands : Type 0
FilledStands =
    (h : History Entry) (o : ℕ) (c : Core) (t : Trip) (bytes : List ℕ) (lane : LaneSeen)
    → StandsFor h c → IsOpenRead c.setup h o t → SameLane t.taken lane
    → HoldsPage t.taken t.key.page bytes
    → StandsFor ((o, entry.Filled t.key) ∷ h) (step.filled c t.key bytes lane)

abbrev pub ReadFailedStands : Type 0
ReadFailedStands =
    (h : History Entry) (o : ℕ) (c : Core) (t : Trip) (lane : LaneSeen)
    → StandsFor h c → IsOpenRead c.setup h o t → SameLane t.taken lane → Rose t.taken.count lane.count
    → lane.count < 2 ^ 64
    → StandsFor ((o, entry.ReadFailed t.key lane.count) ∷ h) (step.read_failed c t.key lane lane.count)

abbrev pub OpenPageStands : Type 0
OpenPageStands =
    (h : History Entry) (o : ℕ) (c : Core) (k : Key)
    → StandsFor h c → next c ≡ serve.Open k → StandsFor ((o, entry.Opened k) ∷ h) (step.open_page c k)

abbrev pub DropRaiseStands : Type 0
DropRaiseStands =
    (h : History Entry) (o : ℕ) (c : Core) (k : Key)
    → StandsFor h c → next c ≡ serve.Drop k → StandsFor ((o, entry.Dropped k) ∷ h) (step.drop_raise c k)

abbrev pub StartWriteStands : Type 0
StartWriteStands =
    (h : History Entry) (o : ℕ) (c : Core) (k : Key) (why : Cause)
    → StandsFor h c → CanStartWrite c k why
    → StandsFor ((o, entry.StartWrite k why) ∷ h) (step.start_write c k)

abbrev pub WrittenStands : Type 0
WrittenStands =
    (h : History Entry) (o : ℕ) (c : Core) (t : Trip) (bytes : List ℕ) (lane : LaneSeen)
    → StandsFor h c → IsOpenWrite c.setup h o t → WritesTaken c.setup h t.key bytes
    → WithPage t.key.page bytes t.taken lane
    → StandsFor ((o, entry.Written t.key t.at bytes) ∷ h) (step.written c t.key lane)

abbrev pub WriteFailedStands : Type 0
WriteFailedStands =
    (h : History Entry) (o : ℕ) (c : Core) (t : Trip) (lane : LaneSeen)
    → StandsFor h c → IsOpenWrite c.setup h o t → OtherPages t.key.page t.taken lane
    → Rose t.taken.count lane.count → lane.count < 2 ^ 64
    → StandsFor ((o, entry.WriteFailed t.key lane.count) ∷ h) (step.write_failed c t.key lane)

abbrev pub EvictStands : Type 0
EvictStands =
    (h : History Entry) (o : ℕ) (c : Core) (k : Key) (why : Cause)
    → StandsFor h c → CanEvict c k why → StandsFor ((o, entry.Evicted k why) ∷ h) (step.evict c k)

abbrev pub HintStands : Type 0
HintStands =
    (h : History Entry) (o : ℕ) (c : Core) (k : Key)
    → StandsFor h c → has_page c.setup k ≡ true
    → StandsFor ((o, entry.Hint k (hint_answer c k)) ∷ h) (step.hint c k)

abbrev pub ClosingStands : Type 0
ClosingStands =
    (h : History Entry) (o : ℕ) (c : Core) (r : ℕ)
    → StandsFor h c → r < regions c.setup → is_closing c r ≡ false
    → StandsFor ((o, entry.Closing r) ∷ h) (step.closing c r)

abbrev pub UnmappedStands : Type 0
UnmappedStands =
    (h : History Entry) (o : ℕ) (c : Core) (r : ℕ)
    → StandsFor h c → CanUnmap c r → StandsFor ((o, entry.Unmapped r) ∷ h) (step.unmapped c r)
