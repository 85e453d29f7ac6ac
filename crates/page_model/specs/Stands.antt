-- When a core stands for a history.
use Rattle.std.specs.Prelude.{ℕ, ◌≤◌, Bool, true, false, List, length, map, slice_get, slice_index, Some, None, is_some, ◌≡◌}
use Rattle.std.specs.Bool.{OnTrue}
use Rattle.std.specs.List.{AllByRecursion}
use Rattle.histories.specs.Histories.{History}
use Rattle.page_base.specs.declared.keys.Key.{Key}
use Rattle.page_base.specs.Lanes.{LaneSeen, told_at}
use Rattle.page_model.specs.declared.entry.Entry.{Entry}
use Rattle.page_model.specs.Setups.{Setup, Fits, regions, has_page, is_told, origin_of, pages_of}
use Rattle.page_model.specs.Memory.{flat, kept}
use Rattle.page_model.specs.InFlight.{in_flight}
use Rattle.page_model.specs.Residents.{residents}
use Rattle.page_model.specs.Faults.{pending, last_why}
use Rattle.page_model.specs.Bits.{is_protected, is_dirty}
use Rattle.page_model.specs.Closings.{is_closing, is_unmapped}
use Rattle.page_model.specs.Evictions.{is_evicting}
use Rattle.page_model.specs.StoreFaults.{last_fault, read_fault}
use Rattle.page_model.specs.Tallies.{counts_of}
use Rattle.page_model.specs.Legal.{IsLegal}
use Rattle.page_model.specs.Core.{Resident, LanePlace, Home, Reading, Writing, RegionSeen, Core}

abbrev pub page_key : (region page : ℕ) → Key
page_key region page = record { region = region; page = page }

-- a resident page has the bits that the history says, and its bytes where told
abbrev pub PageStands : Setup → History Entry → Resident → Type 0
PageStands s h r =
    (r.protected ≡ is_protected h r.key)
    × (r.dirty ≡ is_dirty h r.key)
    × OnTrue (is_told s r.key) (r.bytes ≡ flat s h r.key)

-- what the lane of region r is like when it is home: the lane that it was when the stripe was made; each of its told pages
-- still told, and as kept where that is known; and as many faults at least as any entry of the region says
pub record HomeLane (s : Setup) (h : History Entry) (r : ℕ) (lane : LaneSeen) : Type 0 where
  pub origin : origin_of s r ≡ Some lane.origin
  pub told : (p : ℕ) → has_page s (page_key r p) ≡ true → is_told s (page_key r p) ≡ true
      → is_some (told_at lane.told p) ≡ true
  pub kept : (p : ℕ) (bytes : List ℕ) → has_page s (page_key r p) ≡ true → is_told s (page_key r p) ≡ true
      → kept s h (page_key r p) ≡ Some bytes → told_at lane.told p ≡ Some bytes
  pub count : last_fault s h r ≤ lane.count

-- region r has I/O in flight, of page k, started at place `at`
pub record IsOut (h : History Entry) (r : ℕ) (k : Key) (at : ℕ) (writes : Bool) : Type 0 where
  pub before : History Entry
  pub owner : ℕ
  pub is : in_flight h r ≡ Some (record { before = before; owner = owner; key = k; writes = writes })
  pub at_is : at ≡ length before

abbrev pub PlaceStands : Setup → History Entry → ℕ → LanePlace → Type 0
PlaceStands s h r (Home lane) = (in_flight h r ≡ None) × HomeLane s h r lane
PlaceStands s h r (Reading k at why) = IsOut h r k at false × (why ≡ last_why h k)
PlaceStands s h r (Writing k at) = IsOut h r k at true

pub record RegionStands (s : Setup) (h : History Entry) (r : ℕ) (g : RegionSeen) : Type 0 where
  pub place : PlaceStands s h r g.place
  pub closing : g.closing ≡ is_closing h r
  pub unmapped : g.unmapped ≡ is_unmapped h r
  pub read_faults : (p : ℕ) → slice_index g.read_faults p ≡ read_fault h (page_key r p)
  pub sized : length g.read_faults ≡ pages_of (slice_get s.shapes r)

-- The core is what the history says.
pub record StandsFor (h : History Entry) (c : Core) : Type 0 where
  pub fits : Fits c.setup
  pub legal : IsLegal c.setup h
  pub order : map (λ (r : Resident). r.key) c.pages ≡ residents h
  pub pages : AllByRecursion (PageStands c.setup h) c.pages
  pub queue : c.queue ≡ pending h
  pub count : length c.regions ≡ regions c.setup
  pub regions : (r : ℕ) (g : RegionSeen) → slice_get c.regions r ≡ Some g → RegionStands c.setup h r g
  pub evicting : c.evicting ≡ is_evicting c.setup h
  pub counts : c.counts ≡ counts_of h
  pub events : c.events ≡ length h
