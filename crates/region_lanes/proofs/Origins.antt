-- Lanes that are told apart by their origins alone.
use Rattle.std.proofs.Common.{◌≡◌, ℕ, zero, suc, ◌<◌, ◌≤◌, true, List, [], ◌∷◌, ◌++◌, map, length, get_or, slice_get, slice_index_or, Some, refl, sym, ap, subst, ◌∙◌, arith}
use Rattle.std.specs.List.{Contains}
use Rattle.std.proofs.lemmas.List.{length-map, map-append}
use Rattle.page_base.specs.Backings.{in_file}
use Rattle.page_base.specs.Lanes.{Origin, LaneSeen}
use Rattle.file_store.specs.Parts.{PartName, striped}
use Rattle.file_store.specs.FileLanes.{part_of, backing_path, IsInFile}
use Rattle.file_store.specs.Shelves.{same_part}
use Rattle.region_table.specs.Regions.{NamedRegion}
use Rattle.script_run.specs.Contents.{no_lane, origins_of}
use Rattle.script_run.specs.FitsSerial.{lane_at}
use Rattle.region_lanes.specs.Closings.{rows_flat, IsOut, IsOutIn, out_behind, out_without, AllOut, EachIsClosed, AreTheirParts, HasPart}
use Rattle.region_lanes.specs.Regions.{AreLanes, region_origin}
use Rattle.region_lanes.proofs.Lists.{heads, tails, first_in, in_front}

abbrev origin : LaneSeen → Origin
origin l = l.origin

abbrev flat_origins : List (List Origin) → List Origin
flat_origins [] = []
flat_origins (os ∷ rest) = os ++ flat_origins rest

flat_by_rows : (rows : List (List LaneSeen)) → map (λ (l : LaneSeen). l.origin) (rows_flat rows) ≡ flat_origins (origins_of rows)
flat_by_rows [] = refl
flat_by_rows (row ∷ rows) = map-append (λ (l : LaneSeen). l.origin) row (rows_flat rows) ∙ ap (λ (os : List Origin). map (λ (l : LaneSeen). l.origin) row ++ os) (flat_by_rows rows)

-- the name of the part of a lane of this origin
abbrev name_by : Origin → PartName
name_by o = record { path = backing_path o.backing; extent = striped o }

all_out : (ls ms : List LaneSeen) (out : List PartName) → map (λ (l : LaneSeen). l.origin) ms ≡ map (λ (l : LaneSeen). l.origin) ls → AllOut ls out → AllOut ms out
all_out [] [] out e all = tt
all_out [] (m ∷ ms) out e all = absurd (cc)
all_out (l ∷ ls) [] out e all = absurd (cc)
all_out (l ∷ ls) (m ∷ ms) out e all =
    let same : l.origin ≡ m.origin = sym (heads e) in (
      subst (λ (o : Origin). IsOutIn o.backing (name_by o) out) same all.0,
      subst (λ (o : Origin). AllOut ms (out_without o.backing (name_by o) out)) same (all_out ls ms (out_behind l out) (tails e) all.1),
    )

same_lane : (ls ms : List LaneSeen) (l : LaneSeen) → map (λ (l : LaneSeen). l.origin) ms ≡ map (λ (l : LaneSeen). l.origin) ls → Contains ls l → (m : LaneSeen) × Contains ms m × (m.origin ≡ l.origin)
same_lane [] ms l e has = absurd (omega (arith, has.1))
same_lane (x ∷ ls) [] l e has = absurd (cc)
same_lane (x ∷ ls) (m ∷ ms) l e (zero, h, is) = (m, first_in m ms, heads e ∙ ap (λ (k : LaneSeen). k.origin) is)
same_lane (x ∷ ls) (m ∷ ms) l e (suc k, h, is) =
    let rest = same_lane ls ms l (tails e) (k, omega (arith, h), is) in
    (rest.0, in_front rest.0 m ms rest.1, rest.2)

has_part : (x : PartName) (l m : LaneSeen) → m.origin ≡ l.origin → HasPart x l → HasPart x m
has_part x l m e has = subst (λ (o : Origin). (o.backing ≡ in_file (backing_path o.backing)) × (same_part x (name_by o) ≡ true)) (sym e) has

pub same_parts : (rows ends : List (List LaneSeen)) (out : List PartName) → origins_of ends ≡ origins_of rows → AreTheirParts (rows_flat rows) out → AreTheirParts (rows_flat ends) out
same_parts rows ends out e parts =
    let same : map (λ (l : LaneSeen). l.origin) (rows_flat ends) ≡ map (λ (l : LaneSeen). l.origin) (rows_flat rows) = flat_by_rows ends ∙ ap flat_origins e ∙ sym (flat_by_rows rows) in
    record {
      in_turn = all_out (rows_flat rows) (rows_flat ends) out same parts.in_turn;
      no_other = λ x has.
          let was = parts.no_other x has in
          let now = same_lane (rows_flat rows) (rows_flat ends) was.0 same was.1 in
          (now.0, now.1, has_part x was.0 now.0 now.2 was.2);
    }

-- ---- the same regions

map_or : {X Y : Type 0} (f : X → Y) (xs : List X) (k : ℕ) (d : X) → f (slice_index_or xs k d) ≡ slice_index_or (map f xs) k (f d)
map_or f [] k d = refl
map_or f (x ∷ xs) zero d = refl
map_or f (x ∷ xs) (suc k) d = map_or f xs k d

row_at : (rows : List (List LaneSeen)) (s : ℕ) → map (λ (l : LaneSeen). l.origin) (slice_index_or rows s []) ≡ slice_index_or (origins_of rows) s []
row_at rows s = map_or (λ (row : List LaneSeen). map (λ (l : LaneSeen). l.origin) row) rows s []

origin_at : (rows : List (List LaneSeen)) (s r : ℕ) → (lane_at rows s r).origin ≡ slice_index_or (slice_index_or (origins_of rows) s []) r (no_lane).origin
origin_at rows s r = map_or (λ (l : LaneSeen). l.origin) (slice_index_or rows s []) r no_lane ∙ ap (λ (os : List Origin). slice_index_or os r (no_lane).origin) (row_at rows s)

rows_len : (rows : List (List LaneSeen)) → length rows ≡ length (origins_of rows)
rows_len rows = sym (length-map rows (λ (row : List LaneSeen). map (λ (l : LaneSeen). l.origin) row))

row_len : (rows : List (List LaneSeen)) (s : ℕ) → length (slice_index_or rows s []) ≡ length (slice_index_or (origins_of rows) s [])
row_len rows s = sym (length-map (slice_index_or rows s []) (λ (l : LaneSeen). l.origin)) ∙ ap length (row_at rows s)

pub same_regions : (n stripes : ℕ) (regions : List NamedRegion) (rows ends : List (List LaneSeen)) → origins_of ends ≡ origins_of rows → AreLanes n stripes regions rows → AreLanes n stripes regions ends
same_regions n stripes regions rows ends e lanes = record {
  count = rows_len ends ∙ ap length e ∙ sym (rows_len rows) ∙ lanes.count;
  width = λ s below. row_len ends s ∙ ap (λ (os : List (List Origin)). length (slice_index_or os s [])) e ∙ sym (row_len rows s) ∙ lanes.width s below;
  origin = λ s r g below known.
      origin_at ends s r ∙ ap (λ (os : List (List Origin)). slice_index_or (slice_index_or os s []) r (no_lane).origin) e ∙ sym (origin_at rows s r) ∙ lanes.origin s r g below known;
}
