-- Which lanes go with a layout and with the regions of a workload.
use Rattle.std.specs.Prelude.{◌≡◌, ℕ, ◌/◌, ◌%◌, ◌==◌, ◌<◌, ◌≤◌, Bool, true, List, [], map, length, slice_index_or}
use Rattle.std.specs.List.{list_all, enumerate_from}
use Rattle.page_base.specs.declared.limits.TheConstants.{MOST_FAULTS}
use Rattle.page_base.specs.Backings.{in_memory}
use Rattle.page_base.specs.Lanes.{Origin, LaneSeen, all_there}
use Rattle.page_base.specs.declared.layout.Layout.{Layout}
use Rattle.store_trait.specs.Memory.{memory_origin}
use Rattle.workload_text.specs.Line.{Line}
use Rattle.workload_text.specs.Grammar.{Region}
use Rattle.workload_text.specs.Accepted.{regions_of}
use Rattle.script_run.specs.declared.settings.Settings.{Settings}

-- every region is a number of whole pages
abbrev pub has_whole_pages : (page_size : ℕ) → List Region → Bool
has_whole_pages page_size regions = list_all (λ (g : Region). g.size % page_size == 0) regions

-- the pages of each region
abbrev pub page_counts : (page_size : ℕ) → List Region → List ℕ
page_counts page_size regions = map (λ (g : Region). g.size / page_size) regions

-- which pages of which region a lane has, wherever the region lies: a lane of the same pages in memory
abbrev pub share_of : Origin → Origin
share_of o = record o { backing = in_memory; there = all_there }

abbrev pub shares_of : List (List LaneSeen) → List (List Origin)
shares_of rows = map (λ (row : List LaneSeen). map (λ (l : LaneSeen). share_of l.origin) row) rows

-- the shares of one stripe, one of each region in order
abbrev pub row_shares : (page_size stripes stripe : ℕ) → (pages : List ℕ) → List Origin
row_shares page_size stripes stripe pages =
    map (λ r. memory_origin r.0 r.1 page_size stripes stripe) (enumerate_from 0 pages)

-- one row of lanes for each stripe, each lane with its stripe's pages of its region, whatever store it reads and writes
pub record FitLanes (layout : Layout) (regions : List Region) (rows : List (List LaneSeen)) : Type 0 where
  pub stripes : length rows ≡ layout.stripes
  pub whole : has_whole_pages layout.page_size regions ≡ true
  pub lanes : (s : ℕ) → s < length rows → slice_index_or (shares_of rows) s [] ≡ row_shares layout.page_size (length rows) s (page_counts layout.page_size regions)

-- the lanes go with the settings' layout and with the regions of these lines
abbrev pub LanesFit : Settings → List Line → (rows : List (List LaneSeen)) → Type 0
LanesFit settings lines rows = FitLanes settings.layout (regions_of lines) rows

-- the watermarks and the number of faults that may wait are in their ranges
pub record AreInRange (s : Settings) : Type 0 where
  pub some_fault : 1 ≤ s.faults
  pub few_faults : s.faults ≤ MOST_FAULTS
  pub marks : s.low < s.high
  pub percent : s.high ≤ 100
