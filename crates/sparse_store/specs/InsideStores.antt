-- The parts of a store, whatever they tell.
use Rattle.std.specs.Prelude.{◌≡◌, ℕ, List, length, slice_get, Some}
use Rattle.file_store.specs.Parts.{PartSeen}
use Rattle.file_store.specs.Folders.{whole_name}
use Rattle.sparse_store.specs.Files.{file_path, file_count}
use Rattle.sparse_store.specs.declared.meta.Meta.{Meta}

-- no two of the parts are of one file
abbrev pub AreApart : List PartSeen → Type 0
AreApart parts = (j k : ℕ) (p q : PartSeen) → slice_get parts j ≡ Some p → slice_get parts k ≡ Some q → p.name.path ≡ q.name.path → j ≡ k

-- the parts are those of the store's files, in order of number
pub record AreFiles {P : Type 0} (seen : P → PartSeen) (dir : List ℕ) (m : Meta) (parts : List P) : Type 0 where
  pub count : length parts ≡ file_count m
  pub names : (k : ℕ) (part : P) → slice_get parts k ≡ Some part → (seen part).name ≡ whole_name (file_path dir k) m.file
