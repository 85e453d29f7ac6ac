-- What contracts see of a part in memory.
use Rattle.std.specs.Prelude.{◌≡◌, ℕ, Bool, List, slice_get, Some}
use Rattle.file_store.specs.Parts.{PartSeen, told_pieces}
use Rattle.file_store.specs.InsideFolders.{stripe_seen}
use Rattle.file_store.specs.InsideMemParts.{name_of, extent_of}
use Rattle.file_store.specs.declared.folder.Cut.{Cut}
use Rattle.file_store.specs.declared.mem_part.Shape.{Shape}
use Rattle.file_store.specs.declared.mem_part.MemPart.{MemPart}

abbrev pub mem_seen : MemPart → PartSeen
mem_seen p = record { name = name_of p.path.items p.shape; made = p.made; told = told_pieces (extent_of p.path.items p.shape) p.bytes.items; count = p.faults }

-- a part over these bytes, none of whose calls failed
abbrev pub fresh_seen : (path : List ℕ) → Shape → (bytes : List ℕ) → (made : Bool) → PartSeen
fresh_seen path shape bytes made = record { name = name_of path shape; made = made; told = told_pieces (extent_of path shape) bytes; count = 0 }

-- the s-th of the parts is stripe s's over these bytes
abbrev pub AreStripesOf : (path : List ℕ) → Cut → (bytes : List ℕ) → List MemPart → Type 0
AreStripesOf path cut bytes parts =
    (s : ℕ) (part : MemPart) → slice_get parts s ≡ Some part → mem_seen part ≡ stripe_seen path cut s bytes
