-- The parts of a lane, and where a page lies among them.
use Rattle.std.specs.Prelude.{◌≡◌, ℕ, ◌+◌, ◌-◌, ◌*◌, ◌/◌, ◌%◌, ◌<◌, ◌≤◌, List, length, slice_get, Some}
use Rattle.page_base.specs.Lanes.{Origin}
use Rattle.page_base.specs.declared.layout.Layout.{Layout}
use Rattle.file_store.specs.Folders.{whole_name}
use Rattle.file_store.specs.Parts.{PartSeen}
use Rattle.sparse_store.specs.Files.{file_path, file_count}
use Rattle.sparse_store.specs.declared.meta.Meta.{Meta}

-- the first of a stripe's files, and the one at each place
abbrev pub first_file : (stripes region stripe : ℕ) → ℕ
first_file stripes region stripe = (stripe + stripes - region % stripes) % stripes

abbrev pub file_number : (stripes region stripe place : ℕ) → ℕ
file_number stripes region stripe place = place * stripes + first_file stripes region stripe

-- the parts are those of a stripe's files, in order of number; there are `count` files of this length
pub record AreStripeFiles (dir : List ℕ) (file count stripes region stripe : ℕ) (parts : List PartSeen) : Type 0 where
  pub stripe_below : stripe < stripes
  pub all : (number : ℕ) → number < count → (region + number) % stripes ≡ stripe → number / stripes < length parts
  pub below : (place : ℕ) → place < length parts → file_number stripes region stripe place < count
  pub names : (place : ℕ) (p : PartSeen) → slice_get parts place ≡ Some p → p.name ≡ whole_name (file_path dir (file_number stripes region stripe place)) file

abbrev pub AreLaneFiles : (dir : List ℕ) → Meta → Layout → (region stripe : ℕ) → List PartSeen → Type 0
AreLaneFiles dir m layout region stripe parts = AreStripeFiles dir m.file (file_count m) layout.stripes region stripe parts

-- the place of the page's file among the stripe's, and where the page begins in the file
pub record IsPagePlace (o : Origin) (m : Meta) (files off place start : ℕ) : Type 0 where
  pub place_is : place ≡ off / o.page_size / o.group / o.stripes
  pub start_is : start ≡ off / o.page_size % o.group * o.page_size
  pub below : place < files
  pub within : start + o.page_size ≤ m.file
