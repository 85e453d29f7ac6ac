-- The bytes of all regions, as the lanes of all stripes tell them.
use Rattle.std.specs.Prelude.{ℕ, zero, suc, ◌+◌, ◌%◌, List, [], ◌++◌, map, length, slice_index_or, unwrap_or}
use Rattle.std.specs.List.{enumerate_from}
use Rattle.page_base.specs.ListSeen.{ListSeen}
use Rattle.page_base.specs.Lanes.{Origin, LaneSeen, told_at}
use Rattle.store_trait.specs.Memory.{memory_origin}
use Rattle.store_trait.specs.MemLanes.{lane_seen}
use Rattle.store_trait.specs.declared.mem_lane.MemLane.{MemLane}
use Rattle.store_trait.specs.declared.mem_store.LaneSet.{LaneSet}

-- for each stripe, what is seen of its lanes, in order of region
abbrev pub rows_in : List (ListSeen MemLane) → List (List LaneSeen)
rows_in stripes = map (λ (row : ListSeen MemLane). map lane_seen row.items) stripes

abbrev pub rows_seen : LaneSet MemLane → List (List LaneSeen)
rows_seen lanes = rows_in lanes.stripes.items

-- a lane that isn't there: it tells nothing
abbrev pub no_lane : LaneSeen
no_lane = record { origin = memory_origin 0 0 0 0 0; told = []; count = 0 }

-- what one stripe's lanes tell of a page
abbrev pub row_told : List LaneSeen → (region page : ℕ) → List ℕ
row_told row region page = unwrap_or (told_at (slice_index_or row region no_lane).told page) []

-- what the lanes tell of a page: pages go round the stripes from the region's number on
abbrev pub page_told : List (List LaneSeen) → (region page : ℕ) → List ℕ
page_told rows region page = row_told (slice_index_or rows ((region + page) % length rows) []) region page

-- the pages below n, one after another
abbrev pub joined : ℕ → (ℕ → List ℕ) → List ℕ
joined zero page = []
joined (suc n) page = joined n page ++ page n

-- regions of so many pages each, whose bytes are given page by page
abbrev pub contents_by : (pages : List ℕ) → (ℕ → ℕ → List ℕ) → List (List ℕ)
contents_by pages page = map (λ r. joined r.1 (page r.0)) (enumerate_from 0 pages)

-- which lanes there are
abbrev pub origins_of : List (List LaneSeen) → List (List Origin)
origins_of rows = map (λ (row : List LaneSeen). map (λ (l : LaneSeen). l.origin) row) rows

-- the pages of each region, by the lanes of the first stripe
abbrev pub pages_in : List (List LaneSeen) → List ℕ
pages_in rows = map (λ (o : Origin). o.pages) (slice_index_or (origins_of rows) 0 [])

-- the bytes of each region
abbrev pub contents_of : List (List LaneSeen) → List (List ℕ)
contents_of rows = contents_by (pages_in rows) (page_told rows)
