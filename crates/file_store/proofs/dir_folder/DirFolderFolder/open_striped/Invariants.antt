use Rattle.std.proofs.Common.{◌≡◌, ◌≤◌, ◌+◌, ℕ, true, length, slice_get, Some}
use Rattle.file_store.specs.InsideDirParts.{IsFreshPart}
use Rattle.file_store.specs.declared.mem_part.Shape.TheVariants.{Striped}
use Rattle.file_store.proofs.dir_folder.DirFolderFolder.open_striped.Given as goal

abbrev pub invariant-loop-stripe : goal.invariant-loop-stripe
invariant-loop-stripe g l = record {
  room : l.stripes ≤ l.parts.spare + l.stripe;
  count : length l.parts.items ≡ l.stripe;
  each : (s : ℕ) (part : _) → slice_get l.parts.items s ≡ Some part → IsFreshPart l.path.items (Striped l.cut s) true part;
}
