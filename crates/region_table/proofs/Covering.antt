-- The pieces of a range cover it.
use Rattle.std.proofs.Common.{◌≡◌, ℕ, zero, suc, ◌+◌, ◌-◌, ◌*◌, ◌/◌, ◌%◌, ◌<◌, ◌≤◌, min, List, ◌∷◌, length, map, sum_by, All, refl, sym, subst, ◌∙◌, arith}
use Rattle.std.proofs.lemmas.List.Elements.{All-cons}
use Rattle.std.proofs.lemmas.List.FromFn.{get_or-map-range_with_len, length-map-range_with_len}
use Rattle.std.proofs.lemmas.List.Sums.{sum_by-cons}
use Rattle.std.proofs.lemmas.Nat.{div-add-mod'}
use Rattle.std.proofs.lemmas.Simd.{map-map}
use Rattle.std.proofs.Math.Nat.{div-lt_iff_lt-mul}
use Rattle.std.specs.List.{range_with_len}
use Rattle.std.specs.List.Sorted.{IsStrictlyIncreasing}
use Rattle.region_table.proofs.Cutting.{piece, first_piece, nonempty}
use Rattle.region_table.specs.Covers.{AreConsecutive, CoversRange}
use Rattle.region_table.specs.Pieces.{piece_in, pieces_of}
use Rattle.page_base.specs.declared.keys.Piece.{Piece}

-- what goes from the pieces behind the first to all of them
record Covered (P r off len : ℕ) (ps : List Piece) : Type 0 where
  joined : AreConsecutive P r off ps
  lengths : sum_by (λ (p : Piece). p.len) ps ≡ len
  inside : (pages : ℕ) → off + len ≤ pages * P → All (λ (p : Piece). p.key.page < pages) ps

one_more : (P r off len l : ℕ) (ps : List Piece) → 1 ≤ P → 1 ≤ len → l ≡ min len (P - off % P) → Covered P r (off + l) (len - l) ps → Covered P r off len (piece r (off / P) (off % P) l ∷ ps)
one_more P r off len l ps sized some is rest = record {
  joined = (record { of_region = refl; begins = div-add-mod' off P; some = omega arith; within = omega arith }, rest.joined);
  lengths = sum_by-cons (λ (p : Piece). p.len) (piece r (off / P) (off % P) l) ps ∙ (let behind = rest.lengths in omega arith);
  inside = λ (pages : ℕ) (fits : off + len ≤ pages * P).
      All-cons (λ (p : Piece). p.key.page < pages) (piece r (off / P) (off % P) l) ps ((div-lt_iff_lt-mul {x = off} {y = pages} sized).1 (omega arith)) (rest.inside pages (omega arith));
}

covered : (fuel P r off len : ℕ) → 1 ≤ P → len ≤ fuel → Covered P r off len (pieces_of P r off len)
covered fuel P r off zero sized few = record { joined = tt; lengths = refl; inside = λ (pages : ℕ) (fits : off + 0 ≤ pages * P) (k : ℕ) (d : Piece) (below : k < 0). absurd (omega arith) }
covered zero P r off (suc len) sized few = absurd (omega arith)
covered (suc fuel) P r off (suc len) sized few =
    let rest = covered fuel P r (off + min (suc len) (P - off % P)) (suc len - min (suc len) (P - off % P)) sized (omega arith) in
    subst (Covered P r off (suc len)) (sym (first_piece P r off (suc len) (min (suc len) (P - off % P)) sized (omega arith) refl))
    (one_more P r off (suc len) (min (suc len) (P - off % P)) (pieces_of P r (off + min (suc len) (P - off % P)) (suc len - min (suc len) (P - off % P))) sized (omega arith) refl rest)

range_rises : (f : ℕ → Piece) (a n : ℕ) → ((j : ℕ) → (f j).key.page ≡ j) → IsStrictlyIncreasing (map (λ (p : Piece). p.key.page) (map f (range_with_len a n)))
range_rises f a n page =
    subst IsStrictlyIncreasing (sym (map-map (λ (p : Piece). p.key.page) f (range_with_len a n)))
    (
    λ (k : ℕ) (below : k + 1 < length (map (λ j. (f j).key.page) (range_with_len a n))).
    let many = length-map-range_with_len (λ j. (f j).key.page) a n in
    let this = get_or-map-range_with_len (λ j. (f j).key.page) a n k (a + k) 0 (omega arith) refl in
    let next = get_or-map-range_with_len (λ j. (f j).key.page) a n (k + 1) (a + k + 1) 0 (omega arith) (omega arith) in
    omega (arith, this, next, page (a + k), page (a + k + 1))
    )

pages_rise : (P r off len : ℕ) → IsStrictlyIncreasing (map (λ (p : Piece). p.key.page) (pieces_of P r off len))
pages_rise P r off zero = λ (k : ℕ) (below : k + 1 < 0). absurd (omega arith)
pages_rise P r off (suc len) =
    subst (λ ps. IsStrictlyIncreasing (map (λ (p : Piece). p.key.page) ps)) (sym (nonempty P r off (suc len) (omega arith)))
    (range_rises (piece_in P r off (off + suc len)) (off / P) ((off + suc len - 1) / P + 1 - off / P) (λ j. refl))

pub covers_range : (page_size region off len : ℕ) → 1 ≤ page_size → CoversRange page_size region off len (pieces_of page_size region off len)
covers_range P r off len sized =
    let all = covered len P r off len sized (omega arith) in
    record { joined = all.joined; lengths = all.lengths; rising = pages_rise P r off len; inside = all.inside }
