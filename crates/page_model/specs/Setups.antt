-- What a stripe is made with: its pages, its frames and its bounds, and its lanes as they were then. Nothing changes it.
use Rattle.std.specs.Prelude.{ℕ, Bool, false, ◌&&◌, ◌==◌, nat_lt, List, length, slice_get, Option, Some, None, is_some, option_map, ◌≡◌, ◌<◌, ◌≤◌, true}
use Rattle.page_base.specs.declared.keys.Key.{Key}
use Rattle.page_base.specs.declared.keys.RegionShape.{RegionShape}
use Rattle.page_base.specs.declared.limits.TheConstants.{MOST_PAGE_SIZE}
use Rattle.page_base.specs.Lanes.{Origin, LaneSeen, told_at}
use Rattle.page_base.specs.Pages.{stripe_of, quota_of}

pub record Setup : Type 0 where
  pub page_size : ℕ
  pub stripes : ℕ
  pub frames : ℕ  -- of all stripes together
  pub number : ℕ  -- of this stripe
  pub faults : ℕ  -- how many faults may be pending
  pub high : ℕ  -- the watermarks, in percent of the stripe's frames
  pub low : ℕ
  pub shapes : List RegionShape  -- by the region's number
  pub lanes : List LaneSeen  -- the stripe's lane of each region, as it was when the stripe was made

-- regions are numbered below this
abbrev pub regions : Setup → ℕ
regions s = length s.shapes

abbrev pub quota : Setup → ℕ
quota s = quota_of s.frames s.stripes s.number

abbrev pub is_page_of : Setup → Option RegionShape → Key → Bool
is_page_of s None k = false
is_page_of s (Some shape) k = nat_lt k.page shape.pages && (stripe_of s.stripes shape.group k.region k.page == s.number)

-- the key names a page of this stripe
abbrev pub has_page : Setup → Key → Bool
has_page s k = is_page_of s (slice_get s.shapes k.region) k

abbrev pub pages_of : Option RegionShape → ℕ
pages_of None = 0
pages_of (Some shape) = shape.pages

abbrev pub may_write : Option RegionShape → Bool
may_write None = false
may_write (Some shape) = shape.writable

-- the region may be stored to
abbrev pub is_writable : Setup → ℕ → Bool
is_writable s r = may_write (slice_get s.shapes r)

abbrev pub told_in : Option LaneSeen → ℕ → Option (List ℕ)
told_in None page = None
told_in (Some lane) page = told_at lane.told page

-- the bytes of a page when the stripe was made, where its lane tells them
abbrev pub base_of : Setup → Key → Option (List ℕ)
base_of s k = told_in (slice_get s.lanes k.region) k.page

-- the page's lane tells its contents
abbrev pub is_told : Setup → Key → Bool
is_told s k = is_some (base_of s k)

abbrev pub count_by : Option LaneSeen → ℕ
count_by None = 0
count_by (Some lane) = lane.count

-- the faults that the region's lane had when the stripe was made
abbrev pub first_count : Setup → ℕ → ℕ
first_count s r = count_by (slice_get s.lanes r)

-- which lane of which store the region's lane was then
abbrev pub origin_of : Setup → ℕ → Option Origin
origin_of s r = option_map (λ (lane : LaneSeen). lane.origin) (slice_get s.lanes r)

-- the lane is the stripe's share of region r, which has this shape
pub record IsLaneOf (s : Setup) (r : ℕ) (shape : RegionShape) (origin : Origin) : Type 0 where
  pub region : origin.region ≡ r
  pub pages : origin.pages ≡ shape.pages
  pub page_size : origin.page_size ≡ s.page_size
  pub group : origin.group ≡ shape.group
  pub stripes : origin.stripes ≡ s.stripes
  pub stripe : origin.stripe ≡ s.number

-- A setup that fits together. Whoever makes a stripe has to know it.
pub record Fits (s : Setup) : Type 0 where
  pub some_bytes : 0 < s.page_size
  pub few_bytes : s.page_size ≤ MOST_PAGE_SIZE
  pub some_frame : 0 < quota s
  pub some_fault : 0 < s.faults
  pub marks : s.low < s.high
  pub percent : s.high ≤ 100
  pub lanes : length s.lanes ≡ length s.shapes  -- one lane a region
  pub lane_of : (r : ℕ) (shape : RegionShape) (lane : LaneSeen) → slice_get s.shapes r ≡ Some shape
      → slice_get s.lanes r ≡ Some lane → IsLaneOf s r shape lane.origin
  pub page_bytes : (k : Key) (bytes : List ℕ) → has_page s k ≡ true → base_of s k ≡ Some bytes
      → length bytes ≡ s.page_size
