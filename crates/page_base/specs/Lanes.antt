-- What is seen of a lane: a stripe's share of one region's store.
-- All of it is plain data, so that the paging model, the core and its callers speak of lanes without the trait that reads and writes them.
use Rattle.std.specs.Prelude.{ℕ, ◌+◌, ◌-◌, ◌^◌, ◌≤◌, min, Bool, true, ◌&&◌, ◌==◌, nat_lt, List, [], slice_index_or, Option, None}
use Rattle.page_base.specs.Backings.{Backing}
use Rattle.page_base.specs.Pages.{stripe_of}

-- which lane of which store it is; no call changes it, and it determines the lane's pages
pub record Origin : Type 0 where
  pub backing : Backing  -- where the region lies
  pub region : ℕ
  pub pages : ℕ  -- of the whole region
  pub page_size : ℕ
  pub group : ℕ  -- the pages that lie together
  pub stripes : ℕ
  pub stripe : ℕ
  pub there : List Bool  -- by file: whether the store had it before it was opened; it had those that the list doesn't reach

-- what is no folder of files was there as a whole
abbrev pub all_there : List Bool
all_there = []

-- the store had this file before it was opened
abbrev pub was_there : Origin → (file : ℕ) → Bool
was_there o file = slice_index_or o.there file true

-- the page is one of the lane's
abbrev pub has_page : Origin → ℕ → Bool
has_page o page = nat_lt page o.pages && (stripe_of o.stripes o.group o.region page == o.stripe)

pub record LaneSeen : Type 0 where
  pub origin : Origin
  pub told : List (Option (List ℕ))  -- by the page's number in its region: its bytes, none where the lane doesn't tell them
  pub count : ℕ  -- of the faults so far, which never falls

-- what a lane tells of a page
abbrev pub told_at : List (Option (List ℕ)) → ℕ → Option (List ℕ)
told_at told page = slice_index_or told page None

-- a count of faults is greater than before, or stands at the last value that it can show
abbrev pub Rose : (before now : ℕ) → Type 0
Rose before now = min (before + 1) (2 ^ 64 - 1) ≤ now
