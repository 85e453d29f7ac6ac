-- The steps of a join: the parts of each stripe's files, taken one by one.
use Rattle.std.specs.Prelude.{◌≡◌, ℕ, ◌+◌, ◌/◌, ◌%◌, ◌<◌, List, [], ◌∷◌, ◌++◌, length, slice_get, Some}
use Rattle.sparse_store.specs.InsideLaneFiles.{file_number}

-- so many parts are those of a stripe's files, of `count` files
pub record HoldsFiles (count stripes region stripe parts : ℕ) : Type 0 where
  pub all : (number : ℕ) → number < count → (region + number) % stripes ≡ stripe → number / stripes < parts
  pub below : (place : ℕ) → place < parts → file_number stripes region stripe place < count

abbrev pub HoldFiles : {P : Type 0} → (count region : ℕ) → List (List P) → Type 0
HoldFiles {P} count region rows = (s : ℕ) (row : List P) → slice_get rows s ≡ Some row → HoldsFiles count (length rows) region s (length row)

-- the last of a row goes behind the others
pub record MovesLast {P : Type 0} (row_old row_new parts_old parts_new : List P) : Type 0 where
  pub last : P
  pub taken : row_old ≡ row_new ++ last ∷ []
  pub put_behind : parts_new ≡ parts_old ++ last ∷ []
