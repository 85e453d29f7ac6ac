-- What is seen of a part of a file, and what its calls do to what it tells.
use Rattle.std.specs.Prelude.{◌≡◌, ℕ, ◌+◌, ◌*◌, ◌/◌, ◌≤◌, ⊤, Bool, List, [], ◌∷◌, length, take, drop, replicate, slice_range, Option, Some, None, is_some, IfSome}
use Rattle.std.specs.Option.{option_map}
use Rattle.page_base.specs.Backings.{in_file}
use Rattle.page_base.specs.Lanes.{Origin, told_at}
use Rattle.page_base.specs.ListSeen.{spliced}
use Rattle.store_trait.specs.Lanes.{IsPlace, ChangesOnly, retold}
use Rattle.store_trait.specs.Memory.{told_by, page_bytes}

-- what of a file a part is: one stripe's pages, or its first bytes
pub data Extent : Type 0 where
  striped : Origin → Extent
  whole : (size : ℕ) → Extent

-- which part it is; no call changes it
pub record PartName : Type 0 where
  pub path : List ℕ
  pub extent : Extent

abbrev pub IsLaneIn : (path : List ℕ) → Extent → Type 0
IsLaneIn path (striped o) = o.backing ≡ in_file path
IsLaneIn path (whole size) = ⊤

-- What is told is a list of pieces: of a striped part by the page's number in its region, of a whole one all its bytes
pub record PartSeen : Type 0 where
  pub name : PartName
  pub made : Bool
  pub told : List (Option (List ℕ))
  pub count : ℕ

-- n bytes from `place` on are what one call may read or write
abbrev pub IsPartRange : Extent → (place n : ℕ) → Type 0
IsPartRange (striped o) place n = IsPlace o n place
IsPartRange (whole size) place n = place + n ≤ size

-- the piece that lies at a place
abbrev pub piece_at : Extent → (place : ℕ) → ℕ
piece_at (striped o) place = place / o.page_size
piece_at (whole size) place = 0

abbrev pub piece_size : Extent → ℕ
piece_size (striped o) = o.page_size
piece_size (whole size) = size

-- how far into its file a part reaches
abbrev pub reach : Extent → ℕ
reach (striped o) = o.pages * o.page_size
reach (whole size) = size

-- what a part tells over these bytes of its file
abbrev pub told_pieces : Extent → List ℕ → List (Option (List ℕ))
told_pieces (striped o) bytes = told_by o (page_bytes o.page_size bytes)
told_pieces (whole size) bytes = Some bytes ∷ []

-- these are the bytes of a piece from `place` on, where it is told
abbrev pub IsRangeOf : Extent → (place : ℕ) → Option (List ℕ) → List ℕ → Type 0
IsRangeOf (striped o) place piece bytes = IfSome piece (λ kept. bytes ≡ kept)
IsRangeOf (whole size) place piece bytes = IfSome piece (λ kept. bytes ≡ slice_range kept place (place + length bytes))

-- the piece after these bytes were written to it
abbrev pub rewritten : Extent → (place : ℕ) → Option (List ℕ) → List ℕ → Option (List ℕ)
rewritten (striped o) place piece bytes = retold piece bytes
rewritten (whole size) place piece bytes = option_map (λ kept. spliced kept place bytes) piece

-- both are told, with this between them, or neither is
abbrev pub WhereTold : {A B : Type 0} → (A → B → Type 0) → Option A → Option B → Type 0
WhereTold P None None = ⊤
WhereTold P None (Some b) = ⊥
WhereTold P (Some a) None = ⊥
WhereTold P (Some a) (Some b) = P a b

-- only the n bytes from `place` on may differ
pub record DiffersWithin (place n : ℕ) (old new : List ℕ) : Type 0 where
  pub size : length new ≡ length old
  pub before : take place new ≡ take place old
  pub behind : drop (place + n) new ≡ drop (place + n) old

abbrev pub PieceDiffers : Extent → (place n : ℕ) → Option (List ℕ) → Option (List ℕ) → Type 0
PieceDiffers (striped o) place n old new = ⊤
PieceDiffers (whole size) place n old new = WhereTold (DiffersWithin place n) old new

-- only this range may differ, and what was told still is
pub record RangeDiffers (e : Extent) (place n : ℕ) (old new : List (Option (List ℕ))) : Type 0 where
  pub pieces : ChangesOnly (piece_at e place) old new
  pub within : PieceDiffers e place n (told_at old (piece_at e place)) (told_at new (piece_at e place))

-- these are the bytes that a part tells from `place` on
abbrev pub TellsRange : PartSeen → (place : ℕ) → List ℕ → Type 0
TellsRange part place bytes = IsRangeOf part.name.extent place (told_at part.told (piece_at part.name.extent place)) bytes

-- the part tells these bytes from `place` on, and the rest of the piece as it was
abbrev pub HasWritten : (old new : PartSeen) (place : ℕ) → List ℕ → Type 0
HasWritten old new place bytes =
    told_at new.told (piece_at old.name.extent place) ≡ rewritten old.name.extent place (told_at old.told (piece_at old.name.extent place)) bytes

-- only the n bytes from `place` on may differ in what the part tells
abbrev pub OthersStay : (old new : PartSeen) (place n : ℕ) → Type 0
OthersStay old new place n = RangeDiffers old.name.extent place n old.told new.told

-- a part that was just made tells zeros wherever it tells
pub record IsZeroed (e : Extent) (old new : List (Option (List ℕ))) : Type 0 where
  pub as_told : (p : ℕ) → is_some (told_at new p) ≡ is_some (told_at old p)
  pub zeros : (p : ℕ) → IfSome (told_at new p) (λ bytes. bytes ≡ replicate (piece_size e) 0)

-- a striped part is a lane of the file at its path
abbrev pub IsNamed : PartName → Type 0
IsNamed n = IsLaneIn n.path n.extent
