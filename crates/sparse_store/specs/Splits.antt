-- A store that is split into one lane for each stripe: which of the parts each lane has.
use Rattle.std.specs.Prelude.{◌≡◌, ℕ, ◌+◌, ◌%◌, ◌==◌, if◌then◌else◌, List, [], ◌∷◌, map, slice_get, Option, Some, IfSome}
use Rattle.std.specs.List.{range_with_len}
use Rattle.page_base.specs.Lanes.{Origin, LaneSeen}
use Rattle.page_base.specs.declared.layout.Layout.{Layout}
use Rattle.store_trait.specs.Memory.{told_by, page_bytes}
use Rattle.file_store.specs.Parts.{PartSeen}
use Rattle.sparse_store.specs.SparseLanes.{there_in, sparse_origin, sparse_seen}
use Rattle.sparse_store.specs.declared.meta.Meta.{Meta}

-- ---- files dealt round the stripes

-- the parts of the files from this number on that go to a stripe: file k of region r goes to stripe (r + k) mod n of n
abbrev pub dealt_from : {P : Type 0} → (stripes region stripe number : ℕ) → List P → List P
dealt_from stripes region stripe number [] = []
dealt_from stripes region stripe number (p ∷ ps) =
    if (region + number) % stripes == stripe then p ∷ dealt_from stripes region stripe (number + 1) ps else dealt_from stripes region stripe (number + 1) ps

abbrev pub dealt_to : {P : Type 0} → (stripes region stripe : ℕ) → List P → List P
dealt_to stripes region stripe parts = dealt_from stripes region stripe 0 parts

-- the parts of each stripe's files
abbrev pub shares_of : {P : Type 0} → (stripes region : ℕ) → List P → List (List P)
shares_of stripes region parts = map (λ s. dealt_to stripes region s parts) (range_with_len 0 stripes)

-- ---- lanes

-- which lane a stripe's is, of a store over these parts
abbrev pub split_origin : (dir : List ℕ) → Meta → Layout → (region : ℕ) → List PartSeen → (stripe : ℕ) → Origin
split_origin dir m layout region parts stripe = sparse_origin dir m layout region stripe (there_in parts)

-- what is seen of it
abbrev pub split_seen : (dir : List ℕ) → Meta → Layout → (region : ℕ) → List PartSeen → (stripe : ℕ) → LaneSeen
split_seen dir m layout region parts stripe =
    sparse_seen (split_origin dir m layout region parts stripe) (dealt_to layout.stripes region stripe parts)

-- the lanes of all stripes
abbrev pub lanes_seen : (dir : List ℕ) → Meta → Layout → (region : ℕ) → List PartSeen → List LaneSeen
lanes_seen dir m layout region parts = map (split_seen dir m layout region parts) (range_with_len 0 layout.stripes)

-- where the contents of the store are told, each lane tells its own pages of them
abbrev pub TellPages : Option (List ℕ) → List LaneSeen → Type 0
TellPages contents lanes = IfSome contents (λ bytes. (s : ℕ) (l : LaneSeen) → slice_get lanes s ≡ Some l → l.told ≡ told_by l.origin (page_bytes l.origin.page_size bytes))
