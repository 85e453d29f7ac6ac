-- The files of a sparse store, and what they hold.
use Rattle.std.specs.Prelude.{◌≡◌, ℕ, ◌*◌, ◌/◌, ◌<◌, ◌≤◌, ⊤, false, List, ◌++◌, map, length, codes, slice_get, Option, Some, MatchOption}
use Rattle.std.specs.Fmt.{decimal}
use Rattle.std.specs.List.{range_with_len}
use Rattle.file_store.specs.Parts.{PartName, PartSeen}
use Rattle.file_store.specs.Shelves.{File, Shelf, file_at, any_out}
use Rattle.file_store.specs.Folders.{whole_name, IsOpenedWhole}
use Rattle.sparse_store.specs.Metas.{IsMeta}
use Rattle.sparse_store.specs.declared.meta.Meta.{Meta}
use Rattle.sparse_store.specs.declared.store.TheConstants.{MOST_FILES}

-- ---- names

-- the path of a file of this name in a folder
abbrev pub path_in : (dir name : List ℕ) → List ℕ
path_in dir name = dir ++ (codes "/" ++ name)

abbrev pub meta_path : (dir : List ℕ) → List ℕ
meta_path dir = path_in dir (codes "_metadata")

-- a file's name is its number
abbrev pub file_path : (dir : List ℕ) → (number : ℕ) → List ℕ
file_path dir number = path_in dir (decimal number)

abbrev pub file_count : Meta → ℕ
file_count m = m.size / m.file

-- the parts of all files of a store, in order of number
abbrev pub file_names : (dir : List ℕ) → Meta → List PartName
file_names dir m = map (λ k. whole_name (file_path dir k) m.file) (range_with_len 0 (file_count m))

-- no part of a file in the folder is out
abbrev pub NoneOutIn : (dir : List ℕ) → List PartName → Type 0
NoneOutIn dir out = (name : List ℕ) → any_out (path_in dir name) out ≡ false

-- ---- shapes

-- the numbers of a store: whole files, and not too many
pub record IsShape (m : Meta) : Type 0 where
  pub meta : IsMeta m
  pub whole_files : m.size ≡ m.size / m.file * m.file
  pub few_files : m.size / m.file ≤ MOST_FILES

-- ---- parts

-- the parts are those of the store's files, in order of number, just opened
pub record AreFilesOpened {P : Type 0} (seen : P → PartSeen) (told : Option Shelf) (dir : List ℕ) (m : Meta) (parts : List P) : Type 0 where
  pub count : length parts ≡ file_count m
  pub each : (k : ℕ) (part : P) → slice_get parts k ≡ Some part → IsOpenedWhole told (file_path dir k) m.file (seen part)

-- a file that is there is as long as it must be
abbrev pub FileReaches : (file : ℕ) → Option (List ℕ) → Type 0
FileReaches file there = MatchOption there ⊤ (λ bytes. file ≤ length bytes)

-- the files of the first numbers are
abbrev pub FilesReach : List File → (dir : List ℕ) → (file count : ℕ) → Type 0
FilesReach files dir file count = (k : ℕ) → k < count → FileReaches file (file_at files (file_path dir k))
