-- What a folder in memory keeps of its files and of the parts that are out.
use Rattle.std.specs.Prelude.{◌≡◌, ◌≢◌, ℕ, ◌+◌, ◌≤◌, ◌<◌, Bool, true, false, List, [], ◌++◌, map, length, drop, slice_index_or, unwrap_or, Option, Some, Vec, vec_capacity}
use Rattle.std.specs.List.{All}
use Rattle.std.specs.Str.{bytes_eq}
use Rattle.file_store.specs.Parts.{Extent, striped, whole, PartName, PartSeen, WhereTold, reach}
use Rattle.file_store.specs.Shelves.{File, file_at, PutsBack}
use Rattle.file_store.specs.InsideFolders.{PutsStripe}
use Rattle.file_store.specs.InsideMemParts.{name_of}
use Rattle.file_store.specs.MemFiles.{files_in}
use Rattle.file_store.specs.declared.folder.Cut.{Cut}
use Rattle.file_store.specs.declared.mem_part.Shape.{Shape}
use Rattle.file_store.specs.declared.files.MemFile.{MemFile}
use Rattle.file_store.specs.declared.files.OutPart.{OutPart}

abbrev pub is_file_at : (path : List ℕ) → MemFile → Bool
is_file_at path f = bytes_eq f.path.items path

abbrev pub out_name : OutPart → PartName
out_name x = name_of x.path.items x.shape

abbrev pub out_in : List OutPart → List PartName
out_in out = map out_name out

-- how many bytes the file must have that a part's pages are put back to
abbrev pub needs : Extent → ℕ
needs (striped o) = reach (striped o)
needs (whole size) = 0

-- each striped part that is out still finds its file as long as it needs
abbrev pub AreLongEnough : List File → List PartName → Type 0
AreLongEnough files out = All (λ (x : PartName). needs x.extent ≤ length (unwrap_or (file_at files x.path) [])) out

-- this is the first of the files at a path
pub record IsFirstAt (path : List ℕ) (files : List MemFile) (at : ℕ) : Type 0 where
  pub inside : at < length files
  pub here : (d : MemFile) → is_file_at path (slice_index_or files at d) ≡ true
  pub before : (k : ℕ) (d : MemFile) → k < at → is_file_at path (slice_index_or files k d) ≡ false

-- a part was put back into these files
pub record PutsPart (part : PartSeen) (old new : List File) : Type 0 where
  pub back : PutsBack part.made part.name.extent part.told (file_at old part.name.path) (file_at new part.name.path)
  pub elsewhere : (path : List ℕ) → path ≢ part.name.path → file_at new path ≡ file_at old path

-- the file at a path is as long as this
abbrev pub HasLength : (size : ℕ) → Option (List ℕ) → Type 0
HasLength size file = size ≤ length (unwrap_or file [])

-- and as long as a part of this shape needs
abbrev pub IsLongEnough : (path : List ℕ) → Shape → List MemFile → Type 0
IsLongEnough path shape files = HasLength (needs (name_of path shape).extent) (file_at (files_in files) path)

-- these bytes stand over the front of the file at a path, or are it where there was none
abbrev pub PutsFront : (path bytes : List ℕ) → (old new : List MemFile) → Type 0
PutsFront path bytes old new =
    file_at (files_in new) path ≡ Some (bytes ++ drop (length bytes) (unwrap_or (file_at (files_in old) path) []))

-- one stripe's pages of these bytes stand in the file at a path, where there is one
abbrev pub PutsStripeAt : (path : List ℕ) → Cut → (stripe : ℕ) → (bytes : List ℕ) → (old new : List MemFile) → Type 0
PutsStripeAt path cut stripe bytes old new =
    WhereTold (PutsStripe path cut stripe bytes) (file_at (files_in old) path) (file_at (files_in new) path)

-- all files but the one at a path are as before
abbrev pub OthersStayAt : (path : List ℕ) → (old new : List MemFile) → Type 0
OthersStayAt path old new = (q : List ℕ) → q ≢ path → file_at (files_in new) q ≡ file_at (files_in old) q

-- the room for files is less by one at most
abbrev pub TakesOneRoom : {Z : Type 0} → (old new : Vec MemFile Z) → Type 0
TakesOneRoom old new = length new.items + vec_capacity old ≤ length old.items + 1 + vec_capacity new
