-- The lanes of stores in memory.
use Rattle.std.specs.Prelude.{◌≡◌, ℕ, ◌*◌, ◌/◌, ◌<◌, List, length, slice_get, Some}
use Rattle.page_base.specs.Lanes.{Origin, LaneSeen}
use Rattle.store_trait.specs.Memory.{memory_origin, memory_told, share_seen}
use Rattle.store_trait.specs.declared.mem_lane.MemLane.{MemLane}
use Rattle.store_trait.specs.declared.mem_store.MemStore.{MemStore}

abbrev pub lane_origin : MemLane → Origin
lane_origin l = memory_origin l.region l.pages l.page_size l.stripes l.stripe

-- what contracts see of a lane in memory
abbrev pub lane_seen : MemLane → LaneSeen
lane_seen l = record { origin = lane_origin l; told = memory_told (lane_origin l) l.kept.items; count = 0 }

-- the lane is the stripe's share of a region with these contents
abbrev pub IsShareOf : (region pages page_size stripes stripe : ℕ) (contents : List ℕ) → MemLane → Type 0
IsShareOf region pages page_size stripes stripe contents lane =
    lane_seen lane ≡ share_seen (memory_origin region pages page_size stripes stripe) contents

-- one lane for each stripe, with the stripe's pages of these contents
pub record AreLanesOf (region pages page_size stripes : ℕ) (contents : List ℕ) (lanes : List MemLane) : Type 0 where
  pub count : length lanes ≡ stripes
  pub each : (s : ℕ) (lane : MemLane) → slice_get lanes s ≡ Some lane → IsShareOf region pages page_size stripes s contents lane

-- one lane of the region for each stripe, with the stripe's pages of the store
abbrev pub AreLanesOfStore : MemStore → (region stripes : ℕ) → List MemLane → Type 0
AreLanesOfStore store region stripes lanes =
    AreLanesOf region (length store.contents.items / store.page_size) store.page_size stripes store.contents.items lanes

-- each of the lanes has pages of this size
abbrev pub HavePageSize : (page_size : ℕ) → List MemLane → Type 0
HavePageSize page_size lanes = (s : ℕ) (lane : MemLane) → slice_get lanes s ≡ Some lane → page_size ≡ (lane_origin lane).page_size

-- the lanes are those of one region, one for each stripe, in order
pub record AreOfOneSplit (lanes : List MemLane) : Type 0 where
  pub region : ℕ
  pub pages : ℕ
  pub page_size : ℕ
  pub some : 0 < length lanes
  pub not_empty : 0 < pages
  pub each : (s : ℕ) (lane : MemLane) → slice_get lanes s ≡ Some lane → lane_origin lane ≡ memory_origin region pages page_size (length lanes) s

-- the contents are as long as the lanes say, and page by page what the lanes tell
pub record AreJoined (lanes : List MemLane) (contents : List ℕ) : Type 0 where
  pub size : (s : ℕ) (lane : MemLane) → slice_get lanes s ≡ Some lane → length contents ≡ (lane_origin lane).pages * (lane_origin lane).page_size
  pub each : (s : ℕ) (lane : MemLane) → slice_get lanes s ≡ Some lane → lane_seen lane ≡ share_seen (lane_origin lane) contents
