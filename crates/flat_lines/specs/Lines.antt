-- What lines did, as their accesses show it.
use Rattle.std.specs.Prelude.{◌≡◌, ℕ, ◌+◌, ◌*◌, ◌<◌, ◌≤◌, Bool, true, false, List, [], ◌∷◌, ◌++◌, length, take, reverse}
use Rattle.std.specs.List.{list_all}
use Rattle.page_base.specs.declared.keys.Piece.{Piece}
use Rattle.page_model.specs.declared.entry.Entry.{Entry}
use Rattle.page_model.specs.declared.entry.Entry.TheVariants.{Load, Save}
use Rattle.page_model.specs.Entries.{of_stripe}
use Rattle.page_model.specs.Pieces.{bytes_in, loads, saves}
use Rattle.region_table.specs.Pieces.{pieces_of}
use Rattle.workload_text.specs.Line.{Line, load_line, store_line}
use Rattle.flat_lines.specs.Spreads.{Spread, stripe_in}
use Rattle.flat_lines.specs.Worlds.{World}

-- these are the first pieces of all
abbrev pub IsFront : (all ps : List Piece) → Type 0
IsFront all ps = (rest : List Piece) × (all ≡ ps ++ rest)

-- the entry neither loads nor stores
abbrev pub is_other : Entry → Bool
is_other (Load k place bytes) = false
is_other (Save k place bytes) = false
is_other e = true

-- A line loaded or stored the first pieces of its range, all or none of them or those before the one that ended it, and `part`
-- are their bytes; any other line did neither.
abbrev pub LineDid : (page_size : ℕ) → Line → (part : List ℕ) → List Entry → Type 0
LineDid z (load_line r off len) part es =
    (ps : List Piece) × IsFront (pieces_of z r off len) ps × (length part ≡ bytes_in ps) × (es ≡ loads ps part)
LineDid z (store_line r off bytes) part es =
    (ps : List Piece) × IsFront (pieces_of z r off (length bytes)) ps × (part ≡ take (bytes_in ps) bytes) × (es ≡ saves ps part)
LineDid z l part es = list_all is_other es ≡ true

-- these accesses in order, on top of others, each in its page's stripe
abbrev pub more_made : Spread → List Entry → (behind : ℕ → List Entry) → ℕ → List Entry
more_made t es behind s = reverse (of_stripe (stripe_in t) s es) ++ behind s

-- the lines did this one by one: the stripes had `behind` and have `all`
abbrev pub AllDid : Spread → List Line → (parts : List (List ℕ)) → (behind all : ℕ → List Entry) → Type 0
AllDid t [] [] behind all = (s : ℕ) → all s ≡ behind s
AllDid t (l ∷ ls) (part ∷ parts) behind all =
    (es : List Entry) × LineDid t.page_size l part es × AllDid t ls parts (more_made t es behind) all
AllDid t ls parts behind all = ⊥

-- a line's range lies in its region
abbrev pub IsInside : World → (count : ℕ) → Line → Type 0
IsInside w count (load_line r off len) = (r < count) × (off + len ≤ w.pages r * w.spread.page_size)
IsInside w count (store_line r off bytes) = (r < count) × (off + length bytes ≤ w.pages r * w.spread.page_size)
IsInside w count l = Unit {0}

abbrev pub AllInside : World → (count : ℕ) → List Line → Type 0
AllInside w count [] = Unit {0}
AllInside w count (l ∷ ls) = IsInside w count l × AllInside w count ls
