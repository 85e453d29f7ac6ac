-- Ranges of one file of a store: which lie in it, and what is read and written there.
use Rattle.std.specs.Prelude.{◌≡◌, ℕ, ◌+◌, ◌≤◌, List, length, slice_range, IfSome}
use Rattle.std.specs.Option.{option_map}
use Rattle.page_base.specs.ListSeen.{spliced}
use Rattle.file_store.specs.Parts.{Extent, striped, whole, PartSeen}
use Rattle.sparse_store.specs.SparseFiles.{file_bytes}

-- n bytes from `start` on lie in the file
abbrev pub LiesWithin : Extent → (start n : ℕ) → Type 0
LiesWithin (striped o) start n = ⊥
LiesWithin (whole size) start n = start + n ≤ size

abbrev pub IsFileRange : PartSeen → (start n : ℕ) → Type 0
IsFileRange p start n = LiesWithin p.name.extent start n

-- these are the bytes from `start` on, where they are told
abbrev pub GivesFileRange : PartSeen → (start : ℕ) → List ℕ → Type 0
GivesFileRange p start bytes = IfSome (file_bytes p) (λ kept. bytes ≡ slice_range kept start (start + length bytes))

-- the file holds these bytes from `start` on, and the others as before
abbrev pub TakesFileRange : (old new : PartSeen) → (start : ℕ) → List ℕ → Type 0
TakesFileRange old new start bytes = file_bytes new ≡ option_map (λ kept. spliced kept start bytes) (file_bytes old)
