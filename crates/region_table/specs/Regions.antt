-- What is seen of regions and of their table.
use Rattle.std.specs.Prelude.{ℕ, ◌/◌, Bool, List, [], ◌∷◌, ◌++◌, map, sum_by, Option}
use Rattle.std.specs.List.{position}
use Rattle.std.specs.Str.{bytes_eq}
use Rattle.page_base.specs.Backings.{Backing, in_memory, in_file, in_files}
use Rattle.page_base.specs.declared.keys.RegionShape.{RegionShape}
use Rattle.region_table.specs.declared.spec.Kind.{Kind}
use Rattle.region_table.specs.declared.spec.Kind.TheVariants.{Memory, File, Sparse}
use Rattle.region_table.specs.declared.spec.RegionSpec.{RegionSpec}

pub record NamedRegion : Type 0 where
  pub name : List ℕ
  pub backing : Backing
  pub size : ℕ  -- in bytes
  pub writable : Bool

-- regions in the order of their numbers
pub record TableSeen : Type 0 where
  pub page_size : ℕ
  pub regions : List NamedRegion

abbrev pub backing_of : Kind → Backing
backing_of Memory = in_memory
backing_of (File path) = in_file path.items
backing_of (Sparse path file) = in_files path.items file

abbrev pub named_by : RegionSpec → NamedRegion
named_by s = record { name = s.name.items; backing = backing_of s.kind; size = s.length; writable = s.writable }

-- the pages that lie together: those of one file of a folder, else each page alone
abbrev pub group_of : ℕ → Backing → ℕ
group_of page_size (in_files path file) = file / page_size
group_of page_size backing = 1

abbrev pub shape_of : ℕ → NamedRegion → RegionShape
shape_of page_size r = record { pages = r.size / page_size; group = group_of page_size r.backing; writable = r.writable }

-- the table with a region behind those that are there
abbrev pub with_region : TableSeen → NamedRegion → TableSeen
with_region t r = record t { regions = t.regions ++ r ∷ [] }

abbrev pub shapes_of : TableSeen → List RegionShape
shapes_of t = map (shape_of t.page_size) t.regions

abbrev pub lengths_of : TableSeen → List ℕ
lengths_of t = map (λ (r : NamedRegion). r.size) t.regions

-- the pages of all regions together
abbrev pub page_count : TableSeen → ℕ
page_count t = sum_by (λ (s : RegionShape). s.pages) (shapes_of t)

-- the number of the region of this name
abbrev pub region_number : TableSeen → List ℕ → Option ℕ
region_number t name = position (λ (r : NamedRegion). bytes_eq r.name name) t.regions
