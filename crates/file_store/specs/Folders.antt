-- What the calls of a folder answer, and what they do to told files and to the parts that are out.
use Rattle.std.specs.Prelude.{◌≡◌, ◌≢◌, ℕ, ◌*◌, ◌<◌, ◌≤◌, ⊤, min, true, List, ◌++◌, map, length, take, replicate, Option, Some, None, is_some, IfSome, IsSomeAnd, MatchOption, Result, Ok, Err, IfErr, IfOk, slice_get}
use Rattle.std.specs.Option.{option_map}
use Rattle.std.specs.List.{range_with_len}
use Rattle.page_base.specs.Backings.{in_file}
use Rattle.page_base.specs.Lanes.{Origin, Rose, all_there}
use Rattle.page_base.specs.ListSeen.{ListSeen}
use Rattle.file_store.specs.Parts.{Extent, striped, whole, PartName, PartSeen, reach, told_pieces}
use Rattle.file_store.specs.Shelves.{Shelf, FolderSeen, file_at}
use Rattle.file_store.specs.declared.folder.Cut.{Cut}
use Rattle.file_store.specs.declared.folder.FolderFault.{FolderFault}
use Rattle.file_store.specs.declared.folder.FolderFault.TheVariants.{Missing, TooShort, Failed, OutOfMemory}

-- this is the reason of a fault
abbrev pub HasReason : (before now : ℕ) → FolderFault → Type 0
HasReason before now (Failed faults) = Rose before now × (faults ≡ now)
HasReason before now Missing = ⊤
HasReason before now (TooShort have need) = ⊤
HasReason before now OutOfMemory = ⊤

pub record HasFolderCause {T : Type 0} (before now : ℕ) (result : Result T FolderFault) : Type 0 where
  pub later : before ≤ now
  pub failed : IfErr result (HasReason before now)

abbrev pub IsFailed : FolderFault → Type 0
IsFailed (Failed faults) = ⊤
IsFailed Missing = ⊥
IsFailed (TooShort have need) = ⊥
IsFailed OutOfMemory = ⊥

-- which refusals a call may answer, told or not
abbrev pub RefusesHead : FolderFault → Type 0
RefusesHead Missing = ⊤
RefusesHead (TooShort have need) = ⊥
RefusesHead (Failed faults) = ⊤
RefusesHead OutOfMemory = ⊥

abbrev pub RefusesNew : FolderFault → Type 0
RefusesNew Missing = ⊥
RefusesNew (TooShort have need) = ⊥
RefusesNew (Failed faults) = ⊤
RefusesNew OutOfMemory = ⊤

abbrev pub RefusesWhole : FolderFault → Type 0
RefusesWhole Missing = ⊥
RefusesWhole (TooShort have need) = ⊤
RefusesWhole (Failed faults) = ⊤
RefusesWhole OutOfMemory = ⊤

-- ---- looks

-- the length that is told of a file, none where it is absent
abbrev pub TellsLength : Option (List ℕ) → Option ℕ → Type 0
TellsLength file answer = answer ≡ option_map (λ bytes. length bytes) file

-- the first bytes of a file, as many as fit or are there
abbrev pub TellsHead : Option (List ℕ) → (buf : List ℕ) → Result ℕ FolderFault → Type 0
TellsHead file buf (Ok n) = IsSomeAnd file (λ bytes. (n ≡ min (length buf) (length bytes)) × (take n buf ≡ take n bytes))
TellsHead file buf (Err Missing) = file ≡ None
TellsHead file buf (Err (Failed faults)) = is_some file ≡ true
TellsHead file buf (Err (TooShort have need)) = ⊥
TellsHead file buf (Err OutOfMemory) = ⊥

-- ---- openings

-- the file has these bytes, fewer than needed
abbrev pub IsShort : Option (List ℕ) → (have need : ℕ) → Type 0
IsShort file have need = IsSomeAnd file (λ bytes. (length bytes ≡ have) × (have < need))

abbrev pub Suffices : (need : ℕ) → Option (List ℕ) → Type 0
Suffices need file = IsSomeAnd file (λ bytes. need ≤ length bytes)

-- when `open_striped` answers that a file is missing or too short; want of memory may stand in for either
abbrev pub TellsMissing : {T : Type 0} → Option (List ℕ) → (need : ℕ) → Result T FolderFault → Type 0
TellsMissing file need (Ok parts) = Suffices need file
TellsMissing file need (Err Missing) = file ≡ None
TellsMissing file need (Err (TooShort have n)) = (n ≡ need) × IsShort file have need
TellsMissing file need (Err (Failed faults)) = Suffices need file
TellsMissing file need (Err OutOfMemory) = ⊤

-- the same of `open_whole`, to which an absent file is welcome
abbrev pub TellsShort : {T : Type 0} → Option (List ℕ) → (need : ℕ) → Result T FolderFault → Type 0
TellsShort file need (Ok part) = MatchOption file ⊤ (λ bytes. need ≤ length bytes)
TellsShort file need (Err Missing) = ⊥
TellsShort file need (Err (TooShort have n)) = (n ≡ need) × IsShort file have need
TellsShort file need (Err (Failed faults)) = MatchOption file ⊤ (λ bytes. need ≤ length bytes)
TellsShort file need (Err OutOfMemory) = ⊤

-- one stripe's part of a file
abbrev pub stripe_origin : (path : List ℕ) → Cut → (stripe : ℕ) → Origin
stripe_origin path cut stripe =
    record { backing = in_file path; region = cut.region; pages = cut.pages; page_size = cut.layout.page_size; group = 1; stripes = cut.layout.stripes; stripe = stripe; there = all_there }

abbrev pub stripe_name : (path : List ℕ) → Cut → (stripe : ℕ) → PartName
stripe_name path cut stripe = record { path = path; extent = striped (stripe_origin path cut stripe) }

abbrev pub stripe_names : (path : List ℕ) → Cut → List PartName
stripe_names path cut = map (stripe_name path cut) (range_with_len 0 cut.layout.stripes)

-- these parts are out too
abbrev pub opened : List PartName → Shelf → Shelf
opened names s = record { files = s.files; out = s.out ++ names }

-- the bytes that a part holds of a file: its first, and zeros of one that is absent
abbrev pub reached_bytes : Extent → Option (List ℕ) → List ℕ
reached_bytes e None = replicate (reach e) 0
reached_bytes e (Some bytes) = take (reach e) bytes

abbrev pub whole_name : (path : List ℕ) → (size : ℕ) → PartName
whole_name path size = record { path = path; extent = whole size }

-- a part that was just opened; `told` are the told files
pub record IsPartOpened (told : Option Shelf) (name : PartName) (part : PartSeen) : Type 0 where
  pub name_is : part.name ≡ name
  pub fresh : part.count ≡ 0
  pub made : IfSome told (λ s. part.made ≡ is_some (file_at s.files name.path))
  pub holds : IfSome told (λ s. part.told ≡ told_pieces name.extent (reached_bytes name.extent (file_at s.files name.path)))

-- the s-th of the parts is stripe s's of the file at a path, just opened
abbrev pub ArePartsOpened : {P : Type 0} → (P → PartSeen) → Option Shelf → (path : List ℕ) → Cut → List P → Type 0
ArePartsOpened {P} seen told path cut parts =
    (s : ℕ) (part : P) → slice_get parts s ≡ Some part → IsPartOpened told (stripe_name path cut s) (seen part)

-- what was opened is so, a part for each stripe
abbrev pub OpensParts : {P E : Type 0} → (P → PartSeen) → FolderSeen → (path : List ℕ) → Cut → Result (ListSeen P) E → Type 0
OpensParts seen folder path cut result = IfOk result (λ parts. ArePartsOpened seen folder.told path cut parts.items)

-- each of the parts has a file
abbrev pub AreMade : {P : Type 0} → (P → PartSeen) → List P → Type 0
AreMade {P} seen parts = (s : ℕ) (part : P) → slice_get parts s ≡ Some part → (seen part).made ≡ true

-- a part of the first bytes of the file at a path, just opened
abbrev pub IsOpenedWhole : Option Shelf → (path : List ℕ) → (size : ℕ) → PartSeen → Type 0
IsOpenedWhole told path size part = IsPartOpened told (whole_name path size) part

-- these parts are out too, where files are told
abbrev pub AreOut : List PartName → (old new : FolderSeen) → Type 0
AreOut names old new = new.told ≡ option_map (opened names) old.told

-- this holds of what is told of the file at a path
abbrev pub OfFile : FolderSeen → (path : List ℕ) → (Option (List ℕ) → Type 0) → Type 0
OfFile folder path Holds = IfSome folder.told (λ s. Holds (file_at s.files path))

-- the bytes that a region in one file needs
abbrev pub need_of : Cut → ℕ
need_of cut = cut.pages * cut.layout.page_size

-- ---- a new file

-- it holds the bytes, or after a fault is absent or holds a front part of them
abbrev pub WritesNew : (bytes : List ℕ) → Result (Unit {0}) FolderFault → Option (List ℕ) → Type 0
WritesNew bytes (Ok u) file = file ≡ Some bytes
WritesNew bytes (Err (Failed faults)) file = MatchOption file ⊤ (λ front. (n : ℕ) × (n < length bytes) × (front ≡ take n bytes))
WritesNew bytes (Err OutOfMemory) file = file ≡ None
WritesNew bytes (Err Missing) file = ⊥
WritesNew bytes (Err (TooShort have need)) file = ⊥

-- no file but this one is changed, and no part is opened or closed
pub record OnlyFile (path : List ℕ) (old new : Shelf) : Type 0 where
  pub elsewhere : (q : List ℕ) → q ≢ path → file_at new.files q ≡ file_at old.files q
  pub out : new.out ≡ old.out
