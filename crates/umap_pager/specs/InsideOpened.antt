-- A stripe that has just been made, and the groups of regions.
use Rattle.std.specs.Prelude.{ℕ, ◌*◌, ◌≡◌, ◌≤◌, List, length, slice_get, slice_index, Some}
use Rattle.page_base.specs.declared.keys.RegionShape.{RegionShape}
use Rattle.page_model.specs.Core.{Core}
use Rattle.page_model.specs.Steps.{fresh}
use Rattle.region_table.specs.Regions.{TableSeen, shapes_of, lengths_of}

-- pages of each region lie together in groups of one at least
abbrev pub HaveGroups : List RegionShape → Type 0
HaveGroups shapes = (r : ℕ) (shape : RegionShape) → slice_get shapes r ≡ Some shape → 1 ≤ shape.group

-- each region has whole pages
abbrev pub HaveWholePages : TableSeen → Type 0
HaveWholePages t = (r : ℕ) (shape : RegionShape) → slice_get (shapes_of t) r ≡ Some shape → slice_index (lengths_of t) r ≡ shape.pages * t.page_size

-- the stripe has just been made, with one lane a region
pub record IsFresh (c : Core) : Type 0 where
  pub is : c ≡ fresh c.setup
  pub lanes : length c.setup.lanes ≡ length c.setup.shapes
