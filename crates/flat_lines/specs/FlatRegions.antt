-- Regions as lists of bytes, in order of region, and what stores leave of them.
use Rattle.std.specs.Prelude.{ℕ, List, [], ◌∷◌, slice_index_or, slice_set}
use Rattle.page_base.specs.ListSeen.{spliced}
use Rattle.workload_text.specs.Line.{Line, store_line}

abbrev pub bytes_at : List (List ℕ) → (region : ℕ) → List ℕ
bytes_at regions region = slice_index_or regions region []

-- the regions behind a line
abbrev pub stored : List (List ℕ) → Line → List (List ℕ)
stored regions (store_line r off bytes) = slice_set regions r (spliced (bytes_at regions r) off bytes)
stored regions l = regions

-- and behind one that stored this part of its bytes
abbrev pub stored_part : List (List ℕ) → Line → (part : List ℕ) → List (List ℕ)
stored_part regions (store_line r off bytes) part = stored regions (store_line r off part)
stored_part regions l part = regions

-- behind several of them
abbrev pub stored_parts : List (List ℕ) → List Line → (parts : List (List ℕ)) → List (List ℕ)
stored_parts regions (l ∷ ls) (part ∷ parts) = stored_parts (stored_part regions l part) ls parts
stored_parts regions ls parts = regions
