-- What the readers of a core answer, and what its trips and its next service know, read off the history that it stands for.
use Rattle.std.specs.Prelude.{◌+◌, ◌≤◌, ◌&&◌, ℕ, ◌<◌, true, false, ◌∷◌, length, Option, Some, None, option_map, ◌≡◌}
use Rattle.std.specs.Bool.{OnTrue}
use Rattle.std.specs.List.{AllByRecursion}
use Rattle.histories.specs.Histories.{History}
use Rattle.page_base.specs.declared.keys.Key.{Key}
use Rattle.page_base.specs.declared.keys.Why.{Why}
use Rattle.page_base.specs.KeyOrder.{is_below, is_past}
use Rattle.page_base.specs.Lanes as lanes
use Rattle.page_base.specs.Lanes.{LaneSeen}
use Rattle.page_model.specs.declared.entry.Entry.{Entry}
use Rattle.page_model.specs.declared.entry.Entry.TheVariants.{StartRead, StartWrite}
use Rattle.page_model.specs.declared.entry.Cause.{Cause}
use Rattle.page_model.specs.declared.seen.Next.TheVariants as serve
use Rattle.page_model.specs.declared.seen.Pick.{Pick}
use Rattle.page_model.specs.Setups.{Setup, Fits, regions, has_page, is_told}
use Rattle.page_model.specs.Memory.{flat}
use Rattle.page_model.specs.InFlight.{is_home, is_reading, is_writing}
use Rattle.page_model.specs.Residents.{residents, is_resident, free_frames, oldest_of}
use Rattle.page_model.specs.Faults.{last_why, is_pending}
use Rattle.page_model.specs.Bits.{is_protected, is_dirty}
use Rattle.page_model.specs.Closings.{is_closing, is_unmapped, is_quiet}
use Rattle.page_model.specs.Evictions.{has_pressure, next_dirty, pick}
use Rattle.page_model.specs.Serving.{next_of, hint_answer}
use Rattle.page_model.specs.StoreFaults.{read_fault}
use Rattle.page_model.specs.Core as core
use Rattle.page_model.specs.Core.{Core, Resident, RegionSeen, Home, Reading, Writing, page_at, region_at}
use Rattle.page_model.specs.Stands.{StandsFor, HomeLane}
use Rattle.page_model.specs.Trips.{Trip, IsOpenRead, IsOpenWrite}

-- the page with its dirty bit
abbrev pub picked : History Entry → Key → Pick
picked h k = record { key = k; dirty = is_dirty h k }

-- For a page of the stripe
pub record PageReads (h : History Entry) (c : Core) (k : Key) : Type 0 where
  pub present : core.is_present c k ≡ is_resident h k
  pub guarded : core.is_guarded c k ≡ (is_resident h k && is_protected h k)
  pub dirty : core.is_dirty c k ≡ (is_resident h k && is_dirty h k)
  pub pending : core.is_pending c k ≡ is_pending h k
  pub reading : core.is_reading c k ≡ is_reading h k
  pub writing : core.is_writing c k ≡ is_writing h k
  pub read_fault : core.read_fault c k ≡ read_fault h k
  pub hint_answer : core.hint_answer c k ≡ hint_answer c.setup h k

-- For a region
pub record RegionReads (h : History Entry) (c : Core) (r : ℕ) : Type 0 where
  pub home : core.is_home c r ≡ is_home h r
  pub closing : core.is_closing c r ≡ is_closing h r
  pub unmapped : core.is_unmapped c r ≡ is_unmapped h r
  pub quiet : core.is_quiet c r ≡ is_quiet h r
  pub oldest_of : core.oldest_of c r ≡ option_map (picked h) (oldest_of h r)

-- For the stripe
pub record StripeReads (h : History Entry) (c : Core) : Type 0 where
  pub resident : core.resident c ≡ length (residents h)
  pub free_frames : core.free_frames c ≡ free_frames c.setup h
  pub pressure : core.has_pressure c ≡ has_pressure c.setup h
  pub next : core.next c ≡ next_of c.setup h
  pub pick : core.pick c ≡ option_map (picked h) (pick h)
  pub next_dirty : (after : Option Key) → core.next_dirty c after ≡ next_dirty h after

pub record ReadersAgree : Type 0 where
  pub pages : (h : History Entry) (c : Core) (k : Key) → StandsFor h c → has_page c.setup k ≡ true
      → PageReads h c k
  pub regions : (h : History Entry) (c : Core) (r : ℕ) → StandsFor h c → r < regions c.setup
      → RegionReads h c r
  pub stripe : (h : History Entry) (c : Core) → StandsFor h c → StripeReads h c

-- a page that is found is as the history says
pub record IsAsSaid (s : Setup) (h : History Entry) (k : Key) (r : Resident) : Type 0 where
  pub key : r.key ≡ k
  pub protected : r.protected ≡ is_protected h k
  pub dirty : r.dirty ≡ is_dirty h k
  pub bytes : OnTrue (is_told s k) (r.bytes ≡ flat s h k)

-- what the pages of a core show, of whatever key
pub record PagesShow : Type 0 where
  pub held : (h : History Entry) (c : Core) → StandsFor h c
      → AllByRecursion (λ (r : Resident). has_page c.setup r.key ≡ true) c.pages
  pub present : (h : History Entry) (c : Core) (k : Key) → StandsFor h c → core.is_present c k ≡ is_resident h k
  pub dirty : (h : History Entry) (c : Core) (k : Key) → StandsFor h c
      → core.is_dirty c k ≡ (is_resident h k && is_dirty h k)
  pub found : (h : History Entry) (c : Core) (k : Key) (r : Resident) → StandsFor h c → page_at c k ≡ Some r
      → IsAsSaid c.setup h k r

-- why a fault is pending, and why the read that is out is made: for the page's last raise
pub record WhysAgree : Type 0 where
  pub pending : (h : History Entry) (c : Core) (k : Key) → StandsFor h c → core.is_pending c k ≡ true
      → core.why_pending c k ≡ last_why h k
  pub out : (h : History Entry) (c : Core) (k : Key) → StandsFor h c → core.is_reading c k ≡ true
      → core.why_out c k ≡ last_why h k

-- ---- what is known of the pages that are picked out

-- a page that may leave, or may be written so that it can leave
pub record MayLeave (c : Core) (p : Pick) : Type 0 where
  pub page : has_page c.setup p.key ≡ true
  pub present : core.is_present c p.key ≡ true
  pub dirty : core.is_dirty c p.key ≡ p.dirty
  pub not_writing : core.is_writing c p.key ≡ false
  pub home : p.dirty ≡ true → core.is_home c p.key.region ≡ true

-- a resident page of region r
pub record IsHeldOf (c : Core) (r : ℕ) (p : Pick) : Type 0 where
  pub region : p.key.region ≡ r
  pub page : has_page c.setup p.key ≡ true
  pub present : core.is_present c p.key ≡ true
  pub dirty : core.is_dirty c p.key ≡ p.dirty

pub record PicksKnow : Type 0 where
  pub picked : (h : History Entry) (c : Core) (p : Pick) → StandsFor h c → core.pick c ≡ Some p → MayLeave c p
  pub oldest : (h : History Entry) (c : Core) (r : ℕ) (p : Pick) → StandsFor h c → core.oldest_of c r ≡ Some p
      → IsHeldOf c r p

-- ---- what is known of the page that a flush writes next

-- a dirty page past a key, and none such comes before it
pub record IsNextToFlush (c : Core) (after : Option Key) (k : Key) : Type 0 where
  pub page : has_page c.setup k ≡ true
  pub dirty : core.is_dirty c k ≡ true
  pub past : is_past after k ≡ true
  pub first : (j : Key) → core.is_dirty c j ≡ true → is_past after j ≡ true → is_below j k ≡ false

-- the next dirty page is such a page, and there is one unless no page past the key is dirty
pub record FlushKnows : Type 0 where
  pub next : (h : History Entry) (c : Core) (after : Option Key) (k : Key) → StandsFor h c
      → core.next_dirty c after ≡ Some k → IsNextToFlush c after k
  pub none : (c : Core) (after : Option Key) (k : Key) → core.next_dirty c after ≡ None → is_past after k ≡ true
      → core.is_dirty c k ≡ false
  pub only : (c : Core) (after : Option Key) (k : Key) → core.is_dirty c k ≡ true → is_past after k ≡ true
      → ((j : Key) → core.is_dirty c j ≡ true → is_past after j ≡ true → is_below j k ≡ false)
      → core.next_dirty c after ≡ Some k
  pub empty : (c : Core) (after : Option Key) → ((k : Key) → is_past after k ≡ true → core.is_dirty c k ≡ false)
      → core.next_dirty c after ≡ None

-- ---- what is known where a service may start

-- the lane is the one that the region has at home
pub record IsHere (c : Core) (r : ℕ) (lane : LaneSeen) : Type 0 where
  pub region : RegionSeen
  pub is : region_at c r ≡ Some region
  pub home : region.place ≡ Home lane

-- the lane may be asked for this page, by pages of this size
pub record LaneHas (s : Setup) (k : Key) (lane : LaneSeen) : Type 0 where
  pub page : lanes.has_page lane.origin k.page ≡ true
  pub page_size : lane.origin.page_size ≡ s.page_size

-- a page that may be read in
pub record ReadyToRead (h : History Entry) (c : Core) (k : Key) : Type 0 where
  pub page : has_page c.setup k ≡ true
  pub absent : core.is_present c k ≡ false
  pub pending : core.is_pending c k ≡ true
  pub free : 0 < core.free_frames c
  pub home : core.is_home c k.region ≡ true

-- a page that may be opened
pub record ReadyToOpen (c : Core) (k : Key) : Type 0 where
  pub page : has_page c.setup k ≡ true
  pub guarded : core.is_guarded c k ≡ true
  pub pending : core.is_pending c k ≡ true

-- the open trip's page, as the core has it
pub record IsReadOut (c : Core) (t : Trip) : Type 0 where
  pub page : has_page c.setup t.key ≡ true
  pub absent : core.is_present c t.key ≡ false
  pub region : RegionSeen
  pub is : region_at c t.key.region ≡ Some region
  pub why : Why
  pub out : region.place ≡ Reading t.key t.at why

pub record IsWriteOut (c : Core) (t : Trip) : Type 0 where
  pub page : has_page c.setup t.key ≡ true
  pub dirty : core.is_dirty c t.key ≡ true
  pub region : RegionSeen
  pub is : region_at c t.key.region ≡ Some region
  pub out : region.place ≡ Writing t.key t.at

pub record ServiceKnows : Type 0 where
  pub read : (h : History Entry) (c : Core) (k : Key) → StandsFor h c → core.next c ≡ serve.Read k
      → ReadyToRead h c k
  pub open_ : (h : History Entry) (c : Core) (k : Key) → StandsFor h c → core.next c ≡ serve.Open k
      → ReadyToOpen c k
  pub drop : (h : History Entry) (c : Core) (k : Key) → StandsFor h c → core.next c ≡ serve.Drop k
      → core.is_pending c k ≡ true
  pub present : (h : History Entry) (c : Core) (k : Key) → StandsFor h c → core.is_present c k ≡ true
      → has_page c.setup k ≡ true
  pub pending : (h : History Entry) (c : Core) (k : Key) → StandsFor h c → core.is_pending c k ≡ true
      → has_page c.setup k ≡ true
  pub here : (c : Core) (r : ℕ) → core.is_home c r ≡ true → (lane : LaneSeen) × IsHere c r lane
  pub like : (h : History Entry) (c : Core) (r : ℕ) (lane : LaneSeen) → StandsFor h c → IsHere c r lane
      → HomeLane c.setup h r lane
  pub lane_has : (s : Setup) (h : History Entry) (k : Key) (lane : LaneSeen) → Fits s
      → has_page s k ≡ true → HomeLane s h k.region lane → LaneHas s k lane
  pub within : (h : History Entry) (c : Core) → StandsFor h c
      → length c.pages + core.reads_out c ≤ core.frames_held c
  pub read_out : (h : History Entry) (o : ℕ) (c : Core) (t : Trip) → StandsFor h c
      → IsOpenRead c.setup h o t → IsReadOut c t
  pub write_out : (h : History Entry) (o : ℕ) (c : Core) (t : Trip) → StandsFor h c
      → IsOpenWrite c.setup h o t → IsWriteOut c t

-- the start of a read or a write is open, with the lane that was home
pub record StartsOpen : Type 0 where
  pub read : (h : History Entry) (o : ℕ) (c : Core) (k : Key) (lane : LaneSeen) → StandsFor h c
      → IsHere c k.region lane
      → IsOpenRead c.setup ((o, StartRead k) ∷ h) o (record { key = k; at = c.events; taken = lane })
  pub write : (h : History Entry) (o : ℕ) (c : Core) (k : Key) (why : Cause) (lane : LaneSeen)
      → StandsFor h c → IsHere c k.region lane
      → IsOpenWrite c.setup ((o, StartWrite k why) ∷ h) o (record { key = k; at = c.events; taken = lane })
