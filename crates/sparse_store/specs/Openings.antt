-- Which refusal comes where, when a store is created or opened, and what it leaves of the folder.
use Rattle.std.specs.Prelude.{◌≡◌, ◌≢◌, ◌⊎◌, ℕ, ◌<◌, ◌≤◌, ⊤, true, List, ◌++◌, length, take, Option, Some, None, is_some, IfSome, IsSomeAnd, Result, Ok, Err, IfErr}
use Rattle.page_base.specs.Lanes.{Rose}
use Rattle.file_store.specs.Shelves.{File, Shelf, FolderSeen, file_at}
use Rattle.file_store.specs.Folders.{IsShort}
use Rattle.file_store.specs.declared.folder.FolderFault.{FolderFault}
use Rattle.file_store.specs.declared.folder.FolderFault.TheVariants as folder
use Rattle.sparse_store.specs.Metas.{meta_text, IsMeta, IsBadMeta}
use Rattle.sparse_store.specs.Files.{meta_path, file_path, file_names, file_count, FilesReach}
use Rattle.sparse_store.specs.declared.meta.Meta.{Meta}
use Rattle.sparse_store.specs.declared.fault.SparseFault.{SparseFault}
use Rattle.sparse_store.specs.declared.fault.SparseFault.TheVariants.{Exists, Missing, BadMeta, SizeMismatch, TooShort, Failed, OutOfMemory}

-- a folder's refusal, as one of a sparse store
abbrev pub of_folder : FolderFault → SparseFault
of_folder folder.Missing = Missing
of_folder (folder.TooShort have need) = TooShort have need
of_folder (folder.Failed faults) = Failed faults
of_folder folder.OutOfMemory = OutOfMemory

-- ---- files

-- the file of this number is the first that is there and too short
pub record IsFirstShort (files : List File) (dir : List ℕ) (m : Meta) (have number : ℕ) : Type 0 where
  pub below : number < file_count m
  pub before : FilesReach files dir m.file number
  pub short : IsShort (file_at files (file_path dir number)) have m.file

-- ---- metadata

-- the metadata of these numbers, and no other
pub record HasMeta (there : Option (List ℕ)) (m : Meta) : Type 0 where
  pub is : IsMeta m
  pub text : there ≡ Some (meta_text m)

-- the sizes differ, or where they don't the lengths of a file do
abbrev pub FirstDiffer : (m n : Meta) → (kept asked : ℕ) → Type 0
FirstDiffer m n kept asked =
    (kept ≢ asked) × (((kept ≡ m.size) × (asked ≡ n.size)) ⊎ ((m.size ≡ n.size) × (kept ≡ m.file) × (asked ≡ n.file)))

-- ---- the calls

-- when `create` answers what; want of memory may stand in for any answer, and so may a call that failed
abbrev pub TellsCreating : {T : Type 0} → List File → (dir : List ℕ) → Meta → Result T SparseFault → Type 0
TellsCreating files dir m (Ok store) = (file_at files (meta_path dir) ≡ None) × FilesReach files dir m.file (file_count m)
TellsCreating files dir m (Err Exists) = is_some (file_at files (meta_path dir)) ≡ true
TellsCreating files dir m (Err (TooShort have need)) = (file_at files (meta_path dir) ≡ None) × (need ≡ m.file) × (number : ℕ) × IsFirstShort files dir m have number
TellsCreating files dir m (Err (Failed faults)) = ⊤
TellsCreating files dir m (Err OutOfMemory) = ⊤
TellsCreating files dir m (Err Missing) = ⊥
TellsCreating files dir m (Err (BadMeta byte)) = ⊥
TellsCreating files dir m (Err (SizeMismatch kept asked)) = ⊥

-- when `open` does
abbrev pub TellsOpening : {T : Type 0} → List File → (dir : List ℕ) → Meta → Result T SparseFault → Type 0
TellsOpening files dir m (Ok store) = HasMeta (file_at files (meta_path dir)) m × FilesReach files dir m.file (file_count m)
TellsOpening files dir m (Err Missing) = file_at files (meta_path dir) ≡ None
TellsOpening files dir m (Err (BadMeta byte)) = IsSomeAnd (file_at files (meta_path dir)) (λ bytes. IsBadMeta bytes byte)
TellsOpening files dir m (Err (SizeMismatch kept asked)) = (own : Meta) × HasMeta (file_at files (meta_path dir)) own × FirstDiffer own m kept asked
TellsOpening files dir m (Err (TooShort have need)) = HasMeta (file_at files (meta_path dir)) m × (need ≡ m.file) × (number : ℕ) × IsFirstShort files dir m have number
TellsOpening files dir m (Err (Failed faults)) = is_some (file_at files (meta_path dir)) ≡ true
TellsOpening files dir m (Err OutOfMemory) = ⊤
TellsOpening files dir m (Err Exists) = ⊥

-- which refusals a call may answer, told or not
abbrev pub RefusesCreating : SparseFault → Type 0
RefusesCreating Exists = ⊤
RefusesCreating (TooShort have need) = ⊤
RefusesCreating (Failed faults) = ⊤
RefusesCreating OutOfMemory = ⊤
RefusesCreating Missing = ⊥
RefusesCreating (BadMeta byte) = ⊥
RefusesCreating (SizeMismatch kept asked) = ⊥

abbrev pub RefusesOpening : SparseFault → Type 0
RefusesOpening Exists = ⊥
RefusesOpening Missing = ⊤
RefusesOpening (BadMeta byte) = ⊤
RefusesOpening (SizeMismatch kept asked) = kept ≢ asked
RefusesOpening (TooShort have need) = ⊤
RefusesOpening (Failed faults) = ⊤
RefusesOpening OutOfMemory = ⊤

-- a failed call raised the folder's count, to the one that is told; closing what was opened may have raised it further
abbrev pub HasSparseReason : (before now : ℕ) → SparseFault → Type 0
HasSparseReason before now (Failed faults) = Rose before faults × (faults ≤ now)
HasSparseReason before now Exists = ⊤
HasSparseReason before now Missing = ⊤
HasSparseReason before now (BadMeta byte) = ⊤
HasSparseReason before now (SizeMismatch kept asked) = ⊤
HasSparseReason before now (TooShort have need) = ⊤
HasSparseReason before now OutOfMemory = ⊤

pub record HasSparseCause {T : Type 0} (before now : ℕ) (result : Result T SparseFault) : Type 0 where
  pub later : before ≤ now
  pub failed : IfErr result (HasSparseReason before now)

-- ---- what is left of the folder

-- the metadata is there now, the parts of all files are out too, and no other file is changed
pub record Creates (dir : List ℕ) (m : Meta) (old new : Shelf) : Type 0 where
  pub meta : file_at new.files (meta_path dir) ≡ Some (meta_text m)
  pub elsewhere : (path : List ℕ) → path ≢ meta_path dir → file_at new.files path ≡ file_at old.files path
  pub out : new.out ≡ old.out ++ file_names dir m

-- the metadata as before, or its front part where a write of it failed
abbrev pub LeavesMeta : SparseFault → (text : List ℕ) → (old new : Option (List ℕ)) → Type 0
LeavesMeta (Failed faults) text old new = (new ≡ old) ⊎ ((old ≡ None) × IsSomeAnd new (λ front. (n : ℕ) × (n < length text) × (front ≡ take n text)))
LeavesMeta Exists text old new = new ≡ old
LeavesMeta Missing text old new = new ≡ old
LeavesMeta (BadMeta byte) text old new = new ≡ old
LeavesMeta (SizeMismatch kept asked) text old new = new ≡ old
LeavesMeta (TooShort have need) text old new = new ≡ old
LeavesMeta OutOfMemory text old new = new ≡ old

-- the files are as before but for a metadata file that a failed write left, and the same parts are out
pub record LeavesFiles (dir : List ℕ) (m : Meta) (fault : SparseFault) (old new : Shelf) : Type 0 where
  pub meta : LeavesMeta fault (meta_text m) (file_at old.files (meta_path dir)) (file_at new.files (meta_path dir))
  pub elsewhere : (path : List ℕ) → path ≢ meta_path dir → file_at new.files path ≡ file_at old.files path
  pub out : new.out ≡ old.out

-- this holds of the files, where they are told
abbrev pub OfFiles : FolderSeen → (List File → Type 0) → Type 0
OfFiles folder Holds = IfSome folder.told (λ s. Holds s.files)
