-- What is seen of a part that was just opened, and what one leaves of its file, in the terms of its path and its cut.
use Rattle.std.specs.Prelude.{ℕ, true, List, Option, is_some}
use Rattle.file_store.specs.Parts.{striped, whole, PartSeen, told_pieces}
use Rattle.file_store.specs.Shelves.{PutsPages}
use Rattle.file_store.specs.declared.folder.Cut.{Cut}
use Rattle.file_store.specs.Folders.{stripe_origin, stripe_name, reached_bytes, whole_name}

-- such a part over the first bytes of its file, when it was just opened
abbrev pub stripe_seen : (path : List ℕ) → Cut → (stripe : ℕ) → (bytes : List ℕ) → PartSeen
stripe_seen path cut stripe bytes =
    record { name = stripe_name path cut stripe; made = true; told = told_pieces (striped (stripe_origin path cut stripe)) bytes; count = 0 }

-- a whole part over such a file, when it was just opened
abbrev pub whole_seen : (path : List ℕ) → (size : ℕ) → Option (List ℕ) → PartSeen
whole_seen path size file =
    record { name = whole_name path size; made = is_some file; told = told_pieces (whole size) (reached_bytes (whole size) file); count = 0 }

-- one stripe's pages of these bytes stand in the file, and all its other bytes are as they were
abbrev pub PutsStripe : (path : List ℕ) → Cut → (stripe : ℕ) → (bytes old new : List ℕ) → Type 0
PutsStripe path cut stripe bytes old new =
    PutsPages (stripe_origin path cut stripe) (told_pieces (striped (stripe_origin path cut stripe)) bytes) old new
