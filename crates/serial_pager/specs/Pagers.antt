-- What contracts see of a pager: its stripes, and which of them has a page.
use Rattle.std.specs.Prelude.{◌≡◌, ℕ, ◌+◌, ◌<◌, ◌≤◌, ◌⊎◌, ◌==◌, if◌then◌else◌, Bool, true, false, nat_lt, List, [], ◌∷◌, length, map, slice_get, Option, Some, None, option_map}
use Rattle.std.specs.List.{list_all}
use Rattle.histories.specs.Histories.{History}
use Rattle.page_base.specs.declared.keys.Key.{Key}
use Rattle.page_base.specs.declared.keys.RegionShape.{RegionShape}
use Rattle.page_base.specs.declared.keys.Why.{Why}
use Rattle.page_base.specs.Lanes.{LaneSeen}
use Rattle.page_base.specs.Pages.{stripe_of}
use Rattle.page_model.specs.declared.entry.Entry.{Entry}
use Rattle.page_model.specs.declared.entry.Entry.TheVariants.{Load, Save, ReadFailed, WriteFailed}
use Rattle.page_model.specs.Setups.{Setup, quota, origin_of}
use Rattle.page_model.specs.Core.{Core, is_closing, is_unmapped}
use Rattle.page_model.specs.Readers.{IsHere}
use Rattle.page_model.specs.Stands.{StandsFor}
use Rattle.page_model.specs.Steps.{fresh}
use Rattle.stripe_core.specs.declared.config.StripeConfig.{StripeConfig}
use Rattle.stripe_core.specs.Configs.{setup_of, CanMake}
use Rattle.store_trait.specs.declared.mem_store.LaneSet.{LaneSet}
use Rattle.page_base.specs.ListSeen.{ListSeen}
use Rattle.serial_pager.specs.declared.fault.PageFault.{PageFault}
use Rattle.serial_pager.specs.declared.fault.UnmapError.{UnmapError}
use Rattle.serial_pager.specs.declared.fault.UnmapError.TheVariants as unmap_error
use Rattle.serial_pager.specs.declared.pager.PagerConfig.{PagerConfig}
use Rattle.serial_pager.specs.Seen.{StripeSeen}
use Rattle.serial_pager.specs.Accesses.{serves, is_read, is_for_store}
use Rattle.serial_pager.specs.Goings.{Went, EachDid, OneFailed}
use Rattle.serial_pager.specs.Writings.{WritesAll, WritesUpTo}
use Rattle.serial_pager.specs.Unmappings.{Unmaps, FailsToUnmap}

-- the stripes in order of number; `spent` counts the pieces that were loaded or stored, each call that flushes or unmaps as
-- MOST_STRIPES of them, and one that unmaps all as MOST_STRIPES for each region
pub record PagerSeen (J : Type 0) : Type 0 where
  pub page_size : ℕ
  pub shapes : List RegionShape  -- by the region's number
  pub stripes : List (StripeSeen J)
  pub spent : ℕ

-- for each stripe, what is seen of its lanes, in order of region
abbrev pub rows_by : {S : Type 0} → (S → LaneSeen) → List (ListSeen S) → List (List LaneSeen)
rows_by seen stripes = map (λ row. map seen row.items) stripes

abbrev pub rows_of : {S : Type 0} → (S → LaneSeen) → LaneSet S → List (List LaneSeen)
rows_of seen lanes = rows_by seen lanes.stripes.items

-- the configuration of one stripe
abbrev pub config_of : PagerConfig → ℕ → StripeConfig
config_of c number = record { layout = c.layout; number = number; faults = c.faults; high = c.high; low = c.low; shapes = c.shapes }

-- there are lanes and a journal for each stripe, and each stripe may be made with its lanes
pub record CanOpen (c : PagerConfig) (rows : List (List LaneSeen)) (noted : ℕ) : Type 0 where
  pub stripes : length rows ≡ c.layout.stripes
  pub journals : noted ≡ c.layout.stripes
  pub each : (s : ℕ) (row : List LaneSeen) → slice_get rows s ≡ Some row → CanMake (config_of c s) row

abbrev pub group_in : Option RegionShape → ℕ
group_in None = 1
group_in (Some shape) = shape.group

abbrev pub region_has_page : Option RegionShape → ℕ → Bool
region_has_page None page = false
region_has_page (Some shape) page = nat_lt page shape.pages

abbrev pub may_store : Option RegionShape → Bool
may_store None = false
may_store (Some shape) = shape.writable

abbrev pub core_in : {J : Type 0} → Option (StripeSeen J) → Option Core
core_in None = None
core_in (Some x) = Some x.core

abbrev pub closes_in : Option Core → ℕ → Bool
closes_in None r = false
closes_in (Some c) r = is_closing c r

-- these lanes are the ones that one stripe has at home
pub record AreLanesOfCore (c : Core) (row : List LaneSeen) : Type 0 where
  pub count : length row ≡ length c.setup.shapes
  pub here : (r : ℕ) (lane : LaneSeen) → slice_get row r ≡ Some lane → IsHere c r lane
  pub origin : (r : ℕ) (lane : LaneSeen) → slice_get row r ≡ Some lane → origin_of c.setup r ≡ Some lane.origin

-- these entries by one stripe, and none by the others
abbrev pub made_in : (stripe : ℕ) → List Entry → ℕ → List Entry
made_in s es n = if n == s then es else []

module _ {J : Type 0} where
  abbrev pub core_at : PagerSeen J → ℕ → Option Core
  core_at p s = core_in (slice_get p.stripes s)

  -- the key names a page of one of the regions
  abbrev pub has_key : PagerSeen J → Key → Bool
  has_key p k = region_has_page (slice_get p.shapes k.region) k.page

  -- the region may be stored to
  abbrev pub is_writable : PagerSeen J → ℕ → Bool
  is_writable p r = may_store (slice_get p.shapes r)

  -- the stripe of a page
  abbrev pub stripe_at : PagerSeen J → Key → ℕ
  stripe_at p k = stripe_of (length p.stripes) (group_in (slice_get p.shapes k.region)) k.region k.page

  -- the region closes in a stripe, or is unmapped there
  abbrev pub closes_at : PagerSeen J → (stripe region : ℕ) → Bool
  closes_at p s r = closes_in (core_at p s) r

  -- the region is unmapped in every stripe
  abbrev pub is_gone : PagerSeen J → ℕ → Bool
  is_gone p r = list_all (λ (x : StripeSeen J). is_unmapped x.core r) p.stripes

  -- no more pages are resident in a stripe than it has frames
  abbrev pub IsWithin : PagerSeen J → Type 0
  IsWithin p = (s : ℕ) (c : Core) → core_at p s ≡ Some c → length c.pages ≤ quota c.setup

  -- a piece in one page that lies in the region, which doesn't close in its stripe
  pub record IsPiece (p : PagerSeen J) (k : Key) (place len : ℕ) : Type 0 where
    pub page : has_key p k ≡ true
    pub open_ : closes_at p (stripe_at p k) k.region ≡ false
    pub some : 0 < len
    pub within : place + len ≤ p.page_size

  -- what a stripe was made with
  abbrev pub setup_at : PagerSeen J → ℕ → Option Setup
  setup_at p s = option_map (λ (c : Core). c.setup) (core_at p s)

  -- the same regions, and the same stripes as they were made, in which the same regions close
  pub record IsSame (old new : PagerSeen J) : Type 0 where
    pub page_size : new.page_size ≡ old.page_size
    pub shapes : new.shapes ≡ old.shapes
    pub stripes : length new.stripes ≡ length old.stripes
    pub setups : (s : ℕ) → setup_at new s ≡ setup_at old s
    pub closes : (s r : ℕ) → closes_at new s r ≡ closes_at old s r

  -- the same regions, and the same stripes as they were made, in which all regions but one close as before, that one doesn't open
  -- again, and none is mapped again
  pub record ClosesOnly (region : ℕ) (old new : PagerSeen J) : Type 0 where
    pub page_size : new.page_size ≡ old.page_size
    pub shapes : new.shapes ≡ old.shapes
    pub stripes : length new.stripes ≡ length old.stripes
    pub setups : (s : ℕ) → setup_at new s ≡ setup_at old s
    pub others : (s r : ℕ) → (r ≡ region → ⊥) → closes_at new s r ≡ closes_at old s r
    pub stays : (s : ℕ) → closes_at old s region ≡ true → closes_at new s region ≡ true
    pub gone : (r : ℕ) → is_gone old r ≡ true → is_gone new r ≡ true

  -- in each stripe these entries were made, the newest first
  abbrev pub WentAll : (owner : ℕ) (has_noted : J → History Entry → Type 0) → (made : ℕ → List Entry) → (old new : PagerSeen J) → Type 0
  WentAll owner has_noted made old new =
      (s : ℕ) (x y : StripeSeen J) → slice_get old.stripes s ≡ Some x → slice_get new.stripes s ≡ Some y → Went owner has_noted (made s) x y

  -- By entries of one stripe that all pass a test, and then this one.
  pub record WentToIn (owner : ℕ) (has_noted : J → History Entry → Type 0) (s : ℕ) (passes : Entry → Bool) (last : Entry) (old new : PagerSeen J) : Type 0 where
    pub before : List Entry
    pub pass : list_all passes before ≡ true
    pub went : WentAll owner has_noted (made_in s (last ∷ before)) old new

  -- the page's stripe loaded these bytes of it
  abbrev pub LoadsPiece : (owner : ℕ) (has_noted : J → History Entry → Type 0) → Key → (place : ℕ) → List ℕ → (old new : PagerSeen J) → Type 0
  LoadsPiece owner has_noted k place bytes old new = WentToIn owner has_noted (stripe_at old k) (serves k is_read) (Load k place bytes) old new

  -- the page's stripe stored these bytes to it
  abbrev pub StoresPiece : (owner : ℕ) (has_noted : J → History Entry → Type 0) → Key → (place : ℕ) → List ℕ → (old new : PagerSeen J) → Type 0
  StoresPiece owner has_noted k place bytes old new = WentToIn owner has_noted (stripe_at old k) (serves k is_for_store) (Save k place bytes) old new

  -- the page's stripe failed at a read of the page itself, or at a write that was to make room
  abbrev pub PieceFails : (owner : ℕ) (has_noted : J → History Entry → Type 0) → Key → (reasons : Why → Bool) → (old new : PagerSeen J) → PageFault → Type 0
  PieceFails owner has_noted k reasons old new f =
      ((f.key ≡ k) × WentToIn owner has_noted (stripe_at old k) (serves k reasons) (ReadFailed f.key f.faults) old new)
      ⊎ WentToIn owner has_noted (stripe_at old k) (serves k reasons) (WriteFailed f.key f.faults) old new

  -- so it failed to load the page
  abbrev pub FailsToLoad : (owner : ℕ) (has_noted : J → History Entry → Type 0) → Key → (old new : PagerSeen J) → PageFault → Type 0
  FailsToLoad owner has_noted k = PieceFails owner has_noted k is_read

  -- so it failed to store to it
  abbrev pub FailsToStore : (owner : ℕ) (has_noted : J → History Entry → Type 0) → Key → (old new : PagerSeen J) → PageFault → Type 0
  FailsToStore owner has_noted k = PieceFails owner has_noted k is_for_store

  -- the fault is of a page that lies in the same stripe as page k
  pub record NamesFault (k : Key) (p : PagerSeen J) (f : PageFault) : Type 0 where
    pub page : has_key p f.key ≡ true
    pub stripe : stripe_at p f.key ≡ stripe_at p k

  -- what the stripes' journals were made with
  abbrev pub journals_made : {M : Type 0} → (J → M) → PagerSeen J → List M
  journals_made made_with p = map (λ (x : StripeSeen J). made_with x.journal) p.stripes

  -- A flush ended with a failed write of this page: the stripes below the page's were flushed, and those above it made nothing.
  pub record FlushFails (owner : ℕ) (has_noted : J → History Entry → Type 0) (old new : PagerSeen J) (f : PageFault) : Type 0 where
    pub failed : OneFailed owner has_noted WritesAll (WritesUpTo f) old.stripes new.stripes
    pub page : has_key old f.key ≡ true
    pub at : stripe_at old f.key ≡ failed.stripe

  -- So did the unmapping of the page's region, which wasn't unmapped in every stripe before.
  pub record UnmapFails (owner : ℕ) (has_noted : J → History Entry → Type 0) (region : ℕ) (old new : PagerSeen J) (f : PageFault) : Type 0 where
    pub mapped : is_gone old region ≡ false
    pub failed : OneFailed owner has_noted (Unmaps region) (FailsToUnmap region f) old.stripes new.stripes
    pub page : has_key old f.key ≡ true
    pub at : stripe_at old f.key ≡ failed.stripe

  -- it was, and nothing was made, or the unmapping ended with a failed write
  abbrev pub EndsUnmap : (owner : ℕ) (has_noted : J → History Entry → Type 0) (region : ℕ) → (old new : PagerSeen J) → UnmapError → Type 0
  EndsUnmap owner has_noted region old new unmap_error.Unmapped = (is_gone old region ≡ true) × (new.stripes ≡ old.stripes)
  EndsUnmap owner has_noted region old new (unmap_error.Fault f) = UnmapFails owner has_noted region old new f

  -- the region wasn't unmapped in every stripe before, and is so now, each stripe by its entries
  pub record UnmapsEach (owner : ℕ) (has_noted : J → History Entry → Type 0) (region : ℕ) (old new : PagerSeen J) : Type 0 where
    pub mapped : is_gone old region ≡ false
    pub each : EachDid owner has_noted (Unmaps region) old.stripes new.stripes
    pub gone : is_gone new region ≡ true

  pub record AreRowsOf (p : PagerSeen J) (rows : List (List LaneSeen)) : Type 0 where
    pub count : length rows ≡ length p.stripes
    pub each : (s : ℕ) (row : List LaneSeen) (c : Core) → slice_get rows s ≡ Some row → core_at p s ≡ Some c → AreLanesOfCore c row

  -- the stripe has just been made with these lanes, and stands for no entry
  pub record IsMade (c : PagerConfig) (s : ℕ) (row : List LaneSeen) (first : J) (x : StripeSeen J) : Type 0 where
    pub core : x.core ≡ fresh (setup_of (config_of c s) row)
    pub stands : StandsFor [] x.core
    pub journal : x.journal ≡ first

  pub record IsOpened (c : PagerConfig) (rows : List (List LaneSeen)) (journals : List J) (p : PagerSeen J) : Type 0 where
    pub page_size : p.page_size ≡ c.layout.page_size
    pub shapes : p.shapes ≡ c.shapes.items
    pub stripes : length p.stripes ≡ c.layout.stripes
    pub spent : p.spent ≡ 0
    pub each : (s : ℕ) (row : List LaneSeen) (journal : J) (x : StripeSeen J) → slice_get rows s ≡ Some row → slice_get journals s ≡ Some journal
        → slice_get p.stripes s ≡ Some x → IsMade c s row journal x
    pub open_ : (s r : ℕ) → closes_at p s r ≡ false
