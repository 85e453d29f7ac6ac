-- Lanes over zeros, as they are made: region by region, each with a lane for every stripe.
use Rattle.std.specs.Prelude.{◌≡◌, ℕ, ◌+◌, ◌*◌, ◌/◌, ◌<◌, ◌≤◌, List, [], ◌∷◌, ◌++◌, length, map, replicate, slice_index_or}
use Rattle.page_base.specs.Lanes.{LaneSeen}
use Rattle.page_base.specs.ListSeen.{ListSeen}
use Rattle.page_base.specs.declared.layout.Layout.{Layout}
use Rattle.store_trait.specs.MemLanes.{AreLanesOf}
use Rattle.store_trait.specs.declared.mem_lane.MemLane.{MemLane}
use Rattle.workload_text.specs.declared.limits.TheConstants.{MOST_MEMORY_BYTES}
use Rattle.workload_text.specs.View.{region}
use Rattle.workload_text.specs.declared.workload.MapLine.{MapLine}
use Rattle.store_trait.specs.Memory.{memory_origin, share_seen}
use Rattle.workload_text.specs.Grammar.{Region, size_at}
use Rattle.script_run.specs.Contents.{no_lane, rows_in}

-- each region is whole pages, at least one, and no more than may be kept in memory
pub record AreSmall (page_size : ℕ) (regions : List Region) : Type 0 where
  pub some : (r : ℕ) → r < length regions → 0 < size_at regions r
  pub most : (r : ℕ) → r < length regions → size_at regions r ≤ MOST_MEMORY_BYTES
  pub whole : (r : ℕ) → r < length regions → size_at regions r ≡ size_at regions r / page_size * page_size

-- each row has got a lane more
pub record PutsLanes (lanes : List LaneSeen) (old new : List (List LaneSeen)) : Type 0 where
  pub count : length new ≡ length old
  pub each : (s : ℕ) → s < length old → slice_index_or new s [] ≡ slice_index_or old s [] ++ slice_index_or lanes s no_lane ∷ []

-- one stripe's lane of a region
abbrev pub zero_lane : (page_size stripes stripe region : ℕ) → Region → LaneSeen
zero_lane page_size stripes stripe region g = share_seen (memory_origin region (g.size / page_size) page_size stripes stripe) (replicate g.size 0)

-- one stripe's lanes of some regions, the first of them region n
abbrev pub zero_row : (page_size stripes stripe n : ℕ) → List Region → List LaneSeen
zero_row page_size stripes stripe n [] = []
zero_row page_size stripes stripe n (g ∷ gs) = zero_lane page_size stripes stripe n g ∷ zero_row page_size stripes stripe (n + 1) gs

pub record AreZeroRows (page_size stripes : ℕ) (regions : List Region) (rows : List (List LaneSeen)) : Type 0 where
  pub count : length rows ≡ stripes
  pub each : (s : ℕ) → s < stripes → slice_index_or rows s [] ≡ zero_row page_size stripes s 0 regions

-- one lane of the region for each stripe of the layout, over so many zeros
abbrev pub AreZeroLanes : Layout → (region bytes : ℕ) → List MemLane → Type 0
AreZeroLanes layout region bytes lanes =
    AreLanesOf region (bytes / layout.page_size) layout.page_size layout.stripes (replicate bytes 0) lanes

-- for each stripe of the layout its lanes of the regions of these `map` lines, over zeros
abbrev pub AreZeroRowsOf : Layout → List MapLine → List (ListSeen MemLane) → Type 0
AreZeroRowsOf layout maps rows = AreZeroRows layout.page_size layout.stripes (map region maps) (rows_in rows)
