-- The steps of an opening: one file, and the metadata.
use Rattle.std.specs.Prelude.{◌≡◌, ◌≢◌, ℕ, ⊤, true, false, List, Option, None, is_some, IsSomeAnd, Result, Ok, Err}
use Rattle.file_store.specs.Parts.{PartName}
use Rattle.file_store.specs.Shelves.{File, any_out}
use Rattle.file_store.specs.Folders.{IsShort}
use Rattle.sparse_store.specs.Metas.{IsBadMeta}
use Rattle.sparse_store.specs.Files.{file_path, file_count, FileReaches, FilesReach}
use Rattle.sparse_store.specs.Openings.{IsFirstShort, HasMeta, FirstDiffer}
use Rattle.sparse_store.specs.declared.meta.Meta.{Meta}
use Rattle.sparse_store.specs.declared.fault.SparseFault.{SparseFault}
use Rattle.sparse_store.specs.declared.fault.SparseFault.TheVariants.{Exists, Missing, BadMeta, SizeMismatch, TooShort, Failed, OutOfMemory}

-- which refusals an opening of files may answer
abbrev pub RefusesFiles : SparseFault → Type 0
RefusesFiles (TooShort have need) = ⊤
RefusesFiles (Failed faults) = ⊤
RefusesFiles OutOfMemory = ⊤
RefusesFiles Exists = ⊥
RefusesFiles Missing = ⊥
RefusesFiles (BadMeta byte) = ⊥
RefusesFiles (SizeMismatch kept asked) = ⊥

-- no part of the file of this number is out
abbrev pub NoneOutAt : (dir : List ℕ) → (number : ℕ) → List PartName → Type 0
NoneOutAt dir number out = any_out (file_path dir number) out ≡ false

-- what one file shows when it is opened
abbrev pub TellsShortOne : {T : Type 0} → Option (List ℕ) → (need : ℕ) → Result T SparseFault → Type 0
TellsShortOne there need (Ok part) = FileReaches need there
TellsShortOne there need (Err (TooShort have n)) = (n ≡ need) × IsShort there have need
TellsShortOne there need (Err (Failed faults)) = ⊤
TellsShortOne there need (Err OutOfMemory) = ⊤
TellsShortOne there need (Err Exists) = ⊥
TellsShortOne there need (Err Missing) = ⊥
TellsShortOne there need (Err (BadMeta byte)) = ⊥
TellsShortOne there need (Err (SizeMismatch kept asked)) = ⊥

-- which refusals a look at the metadata may answer
abbrev pub RefusesMeta : SparseFault → Type 0
RefusesMeta Missing = ⊤
RefusesMeta (BadMeta byte) = ⊤
RefusesMeta (SizeMismatch kept asked) = kept ≢ asked
RefusesMeta (Failed faults) = ⊤
RefusesMeta Exists = ⊥
RefusesMeta (TooShort have need) = ⊥
RefusesMeta OutOfMemory = ⊥

-- what the metadata shows when these numbers are asked for
abbrev pub TellsMeta : Option (List ℕ) → Meta → Result (Unit {0}) SparseFault → Type 0
TellsMeta there asked (Ok u) = HasMeta there asked
TellsMeta there asked (Err Missing) = there ≡ None
TellsMeta there asked (Err (BadMeta byte)) = IsSomeAnd there (λ bytes. IsBadMeta bytes byte)
TellsMeta there asked (Err (SizeMismatch kept number)) = (own : Meta) × HasMeta there own × FirstDiffer own asked kept number
TellsMeta there asked (Err (Failed faults)) = is_some there ≡ true
TellsMeta there asked (Err Exists) = ⊥
TellsMeta there asked (Err (TooShort have need)) = ⊥
TellsMeta there asked (Err OutOfMemory) = ⊥

-- what the files show when they are opened in rising order
abbrev pub TellsFiles : {T : Type 0} → List File → (dir : List ℕ) → Meta → Result T SparseFault → Type 0
TellsFiles files dir m (Ok parts) = FilesReach files dir m.file (file_count m)
TellsFiles files dir m (Err (TooShort have need)) = (need ≡ m.file) × (number : ℕ) × IsFirstShort files dir m have number
TellsFiles files dir m (Err (Failed faults)) = ⊤
TellsFiles files dir m (Err OutOfMemory) = ⊤
TellsFiles files dir m (Err Exists) = ⊥
TellsFiles files dir m (Err Missing) = ⊥
TellsFiles files dir m (Err (BadMeta byte)) = ⊥
TellsFiles files dir m (Err (SizeMismatch kept asked)) = ⊥
