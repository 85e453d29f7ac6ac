-- Which calls of a folder in memory, and of its parts, fail.
use Rattle.std.specs.Prelude.{◌≡◌, ⊤, ℕ, Bool, true, false, List, map, Result, Ok, Err, is_ok, not, slice_get, Some}
use Rattle.file_store.specs.FailingLists.{counted, is_listed_in, counted_in, listed_for}
use Rattle.file_store.specs.declared.files.FolderCall.{FolderCall}
use Rattle.file_store.specs.declared.files.PartCall.{PartCall}
use Rattle.file_store.specs.declared.files.FailingFolder.{FailingFolder}
use Rattle.file_store.specs.declared.files.FailingPart.{FailingPart}
use Rattle.file_store.specs.declared.folder.FolderFault.{FolderFault}
use Rattle.file_store.specs.declared.folder.FolderFault.TheVariants.{Missing, TooShort, Failed, OutOfMemory}
use Rattle.file_store.specs.declared.mem_folder.MemFolder.{MemFolder}
use Rattle.file_store.specs.declared.mem_part.Failing.{Failing}
use Rattle.file_store.specs.declared.mem_part.MemPart.{MemPart}

-- the folder's calls that are to fail
abbrev pub failing_calls : MemFolder → List FailingFolder
failing_calls folder = folder.failing.items

-- the calls that are to fail of each part that the folder opens
abbrev pub failing_part_calls : MemFolder → List FailingPart
failing_part_calls folder = folder.failing_parts.items

-- the part's calls that are to fail
abbrev pub failing_in : MemPart → List Failing
failing_in part = part.failing.items

-- a call of this kind for this path was made, and counted where it is listed
pub record CountsCall (call : FolderCall) (path : List ℕ) (old new : MemFolder) : Type 0 where
  pub calls : failing_calls new ≡ map (counted call path) (failing_calls old)
  pub parts : failing_part_calls new ≡ failing_part_calls old

-- a listed call fails, or is refused for its file; no other fails
abbrev pub FailsAsListed : {T : Type 0} → (listed : Bool) → Result T FolderFault → Type 0
FailsAsListed listed (Ok x) = listed ≡ false
FailsAsListed listed (Err (Failed faults)) = listed ≡ true
FailsAsListed listed (Err OutOfMemory) = listed ≡ false
FailsAsListed listed (Err Missing) = ⊤
FailsAsListed listed (Err (TooShort have need)) = ⊤

-- a call of this kind was made of the part and counted, and failed just where it is listed
pub record CountsIn {E : Type 0} (call : PartCall) (old new : MemPart) (result : Result (Unit {0}) E) : Type 0 where
  pub calls : failing_in new ≡ map (counted_in call) (failing_in old)
  pub fails : is_ok result ≡ not (is_listed_in call (failing_in old))

-- each of these parts has the calls that are listed for its path
abbrev pub AreListedFor : (path : List ℕ) → List FailingPart → List MemPart → Type 0
AreListedFor path list parts = (s : ℕ) (part : MemPart) → slice_get parts s ≡ Some part → failing_in part ≡ listed_for path list
