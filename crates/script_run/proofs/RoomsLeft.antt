-- The room of what is left of a workload.
use Rattle.std.proofs.Common.{◌≡◌, ℕ, ◌+◌, ◌<◌, max, List, [], ◌∷◌, length, drop, map, get_or, sym, ap, ◌∙◌, arith}
use Rattle.std.specs.List.{flat_map}
use Rattle.std.proofs.lemmas.List.{drop_more}
use Rattle.workload_text.specs.Line.{Line}
use Rattle.workload_text.specs.Grammar.{Region}
use Rattle.workload_text.specs.View.{region, region_line}
use Rattle.workload_text.specs.declared.workload.MapLine.{MapLine}
use Rattle.script_run.specs.InsideRooms.{longest_name, rooms}
use Rattle.script_run.proofs.RanLines.{rooms-append}

-- the names of the regions from one on
pub next_name : (ms : List MapLine) (i : ℕ) (m : MapLine) → i < length ms → m ≡ get_or ms i m → longest_name (map region (drop i ms)) ≡ max (length m.name.items) (longest_name (map region (drop (i + 1) ms)))
next_name ms i m below is = ap (λ xs. longest_name (map region xs)) (drop_more ms i m below ∙ ap (λ (y : MapLine). y ∷ drop (i + 1) ms) (sym is))

pub longest_more : (ms : List MapLine) (i : ℕ) (m : MapLine) → i < length ms → m ≡ get_or ms i m → (before now all : ℕ) → max before (longest_name (map region (drop i ms))) ≡ all → now ≡ max before (length m.name.items) → max now (longest_name (map region (drop (i + 1) ms))) ≡ all
longest_more ms i m below is before now all e f = omega (arith, e, f, next_name ms i m below is)

pub rooms-maps : (gs : List Region) (ms : List MapLine) → rooms gs (map region_line ms) ≡ 0
rooms-maps gs [] = omega arith
rooms-maps gs (m ∷ ms) = omega (arith, rooms-maps gs ms)

module _ (gs : List Region) where
  pub next_room : {X : Type 0} (f : X → List Line) (items : List X) (i : ℕ) (x : X) → i < length items → x ≡ get_or items i x → rooms gs (flat_map f (drop i items)) ≡ rooms gs (f x) + rooms gs (flat_map f (drop (i + 1) items))
  next_room {X} f items i x below is =
      ap (λ (xs : List X). rooms gs (flat_map f xs)) (drop_more items i x below ∙ ap (λ (y : X). y ∷ drop (i + 1) items) (sym is))
      ∙ rooms-append gs (f x) (flat_map f (drop (i + 1) items))
