-- One stripe's files of a store, as a lane: which pages it has, what it tells of them, and how many of its calls failed.
use Rattle.std.specs.Prelude.{◌≡◌, ℕ, ◌-◌, ◌*◌, ◌/◌, ◌%◌, ◌^◌, min, Bool, if◌then◌else◌, List, map, slice_get, Option, Some, None, sum_by}
use Rattle.std.specs.Option.{option_map}
use Rattle.std.specs.List.{range_with_len}
use Rattle.page_base.specs.Backings.{in_files}
use Rattle.page_base.specs.Lanes.{Origin, LaneSeen, has_page}
use Rattle.page_base.specs.declared.layout.Layout.{Layout}
use Rattle.store_trait.specs.Memory.{page_bytes}
use Rattle.file_store.specs.Parts.{PartSeen}
use Rattle.sparse_store.specs.SparseFiles.{file_bytes}
use Rattle.sparse_store.specs.declared.meta.Meta.{Meta}

-- whole pages lie in one file
abbrev pub HasWholePages : Meta → Layout → Type 0
HasWholePages m layout = m.file ≡ m.file / layout.page_size * layout.page_size

-- which files of a store are there, by the parts of all its files
abbrev pub there_in : List PartSeen → List Bool
there_in parts = map (λ (p : PartSeen). p.made) parts

-- which lane a stripe's is, of the store in a folder that is this region
abbrev pub sparse_origin : (dir : List ℕ) → Meta → Layout → (region stripe : ℕ) → (there : List Bool) → Origin
sparse_origin dir m layout region stripe there = record {
  backing = in_files dir m.file;
  region = region;
  pages = m.size / layout.page_size;
  page_size = layout.page_size;
  group = m.file / layout.page_size;
  stripes = layout.stripes;
  stripe = stripe;
  there = there;
}

-- ---- contents

-- the bytes of a file, where there is a part of it
abbrev pub bytes_in : Option PartSeen → Option (List ℕ)
bytes_in None = None
bytes_in (Some p) = file_bytes p

-- the file of this number among a stripe's, which lie one after another
abbrev pub file_among : (stripes : ℕ) → List PartSeen → (number : ℕ) → Option (List ℕ)
file_among stripes parts number = bytes_in (slice_get parts (number / stripes))

-- a page of the bytes of its file
abbrev pub page_of_file : Origin → Option (List ℕ) → (page : ℕ) → Option (List ℕ)
page_of_file o file page = option_map (λ bytes. page_bytes o.page_size bytes (page % o.group)) file

-- what a lane tells whose files, by their numbers, hold these bytes; it tells of no other stripe's pages
abbrev pub sparse_told : Origin → (files : ℕ → Option (List ℕ)) → List (Option (List ℕ))
sparse_told o files = map (λ p. if has_page o p then page_of_file o (files (p / o.group)) p else None) (range_with_len 0 o.pages)

-- ---- lanes

-- the faults of all these parts, up to the last value that a count can show
abbrev pub count_of_all : List PartSeen → ℕ
count_of_all parts = min (sum_by (λ (p : PartSeen). p.count) parts) (2 ^ 64 - 1)

-- a lane over these parts, which are its files' in order of number
abbrev pub sparse_seen : Origin → List PartSeen → LaneSeen
sparse_seen o parts = record { origin = o; told = sparse_told o (file_among o.stripes parts); count = count_of_all parts }
