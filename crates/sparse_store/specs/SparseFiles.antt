-- What one file of a store holds through its part.
use Rattle.std.specs.Prelude.{ℕ, if◌then◌else◌, List, replicate, Option}
use Rattle.std.specs.Option.{option_map}
use Rattle.page_base.specs.Lanes.{told_at}
use Rattle.file_store.specs.Parts.{PartSeen, piece_size}

-- the bytes of the file, where they are told: zeros of one that isn't there
abbrev pub file_bytes : PartSeen → Option (List ℕ)
file_bytes p = if p.made then told_at p.told 0 else option_map (λ bytes. replicate (piece_size p.name.extent) 0) (told_at p.told 0)
