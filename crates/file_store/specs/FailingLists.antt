-- Lists of calls that are to fail: of a folder by kind and path, and of a part by kind. Each has the number of such calls up to
-- the one that fails, and 0 once that was made.
use Rattle.std.specs.Prelude.{ℕ, ◌-◌, Bool, ◌&&◌, ◌==◌, List, map, if◌then◌else◌}
use Rattle.std.specs.List.{list_any, filter}
use Rattle.std.specs.Str.{bytes_eq}
use Rattle.file_store.specs.declared.files.FolderCall.{FolderCall}
use Rattle.file_store.specs.declared.files.PartCall.{PartCall}
use Rattle.file_store.specs.declared.files.FailingFolder.{FailingFolder}
use Rattle.file_store.specs.declared.files.FailingPart.{FailingPart}
use Rattle.file_store.specs.declared.mem_part.Failing.{Failing}
use Rattle.file_store.specs.contracts.files.FolderCallPartialEq.TheImpl as folder_call
use Rattle.file_store.specs.contracts.files.PartCallPartialEq.TheImpl as part_call

-- ---- a folder's calls

-- the entry is for calls of this kind for this path
abbrev pub awaits : FolderCall → (path : List ℕ) → FailingFolder → Bool
awaits call path x = folder_call.ghosts.eq x.call call && bytes_eq x.path.items path

-- and for the next of them
abbrev pub is_next : FolderCall → (path : List ℕ) → FailingFolder → Bool
is_next call path x = awaits call path x && (x.number == 1)

abbrev pub is_listed : FolderCall → (path : List ℕ) → List FailingFolder → Bool
is_listed call path list = list_any (is_next call path) list

-- such a call was made
abbrev pub counted : FolderCall → (path : List ℕ) → FailingFolder → FailingFolder
counted call path x = if awaits call path x then record x { number = x.number - 1 } else x

-- ---- a part's calls

abbrev pub is_next_in : PartCall → Failing → Bool
is_next_in call x = part_call.ghosts.eq x.call call && (x.left == 1)

abbrev pub is_listed_in : PartCall → List Failing → Bool
is_listed_in call list = list_any (is_next_in call) list

abbrev pub counted_in : PartCall → Failing → Failing
counted_in call x = if part_call.ghosts.eq x.call call then record x { left = x.left - 1 } else x

-- what is listed for each part of a path
abbrev pub listed_for : (path : List ℕ) → List FailingPart → List Failing
listed_for path list = map (λ x. record { call = x.call; left = x.number }) (filter (λ x. bytes_eq x.path.items path) list)
