use Rattle.std.proofs.Common.{◌≡◌, ◌<◌, ℕ, false, slice_index_or}
use Rattle.file_store.specs.InsideMemFolders.{is_file_at}
use Rattle.file_store.specs.declared.files.MemFile.{MemFile}
use Rattle.file_store.proofs.shelf.find_file.Given as goal

abbrev pub invariant-loop-at : goal.invariant-loop-at
invariant-loop-at l = (k : ℕ) (d : MemFile) → k < l.at → is_file_at l.path (slice_index_or l.files k d) ≡ false
