-- The next piece of a range.
use Rattle.std.proofs.Common.{List, [], ap, arith, inl, inr, map, refl, slice_index, subst, suc, sym, ℕ, ◌*◌, ◌+◌, ◌++◌, ◌<◌, ◌∙◌, ◌∷◌, ◌≡◌, ◌≤◌, ◌⊎◌}
use Rattle.std.specs.List.{sum_by}
use Rattle.std.specs.List.Sorted.{IsStrictlyIncreasing}
use Rattle.std.proofs.lemmas.List.Sums.{sum_by-append, sum_by-cons}
use Rattle.std.proofs.lemmas.Nat.{mul-le}
use Rattle.page_base.specs.declared.keys.Piece.{Piece}
use Rattle.region_table.specs.Covers.{AreConsecutive, CoversRange, IsNext, IsPieceAt, PiecesCover, PiecesFollow}
use Rattle.region_table.specs.Pieces.{pieces_of}

abbrev lengths : List Piece → ℕ
lengths ps = sum_by (λ (p : Piece). p.len) ps

joined_at : (size region off : ℕ) (front : List Piece) (p : Piece) (rest : List Piece) → AreConsecutive size region off (front ++ p ∷ rest) → IsPieceAt size region (off + lengths front) p
joined_at size region off [] p rest h = subst (λ n. IsPieceAt size region n p) (omega arith) h.0
joined_at size region off (q ∷ qs) p rest h = subst (λ n. IsPieceAt size region n p) (omega (arith, sum_by-cons (λ (r : Piece). r.len) q qs)) (joined_at size region (off + q.len) qs p rest h.1)

rest_rises : (x : ℕ) (xs : List ℕ) → IsStrictlyIncreasing (x ∷ xs) → IsStrictlyIncreasing xs
rest_rises x xs h k below =
    let next : suc k + 1 ≡ suc (k + 1) = omega arith in
    subst (λ n. slice_index (x ∷ xs) (suc k) < slice_index (x ∷ xs) n) next (h (suc k) (omega (arith, below)))

rows_apart : (i j n : ℕ) → i < j → i * n + n ≤ j * n
rows_apart i j n h = omega (arith, mul-le (i + 1) n j n (omega arith) (omega arith))

-- rows of one size that begin where one before them ends lie a whole number of rows apart
row_begins : (i j size p n q : ℕ) → i < j → p + n ≤ size → j * size + q ≡ i * size + p + n → q ≡ 0
row_begins i j size p n q lt within e =
    let far = rows_apart i j size lt in
    omega (arith, far, within, e)

at_border : (size region off : ℕ) (front : List Piece) (p : Piece) (rest : List Piece) → AreConsecutive size region off (front ++ p ∷ rest) → IsStrictlyIncreasing (map (λ (q : Piece). q.key.page) (front ++ p ∷ rest)) → (front ≡ []) ⊎ (p.place ≡ 0)
at_border size region off [] p rest joined rises = inl refl
at_border size region off (q ∷ []) p rest joined rises =
    let first = joined.0 in
    let next = joined.1.0 in
    inr (row_begins q.key.page p.key.page size q.place q.len p.place (rises 0 (omega arith)) first.within (omega (arith, first.begins, next.begins)))
at_border size region off (q ∷ (q2 ∷ qs)) p rest joined rises = elim (at_border size region (off + q.len) (q2 ∷ qs) p rest joined.1 (rest_rises q.key.page (map (λ (r : Piece). r.key.page) ((q2 ∷ qs) ++ p ∷ rest)) rises)) [
  | inl none ↦ absurd (cc)
  | inr place ↦ inr place
]

next_piece : (size region off len done : ℕ) (front rest : List Piece) (p : Piece) → CoversRange size region off len (pieces_of size region off len) → pieces_of size region off len ≡ front ++ p ∷ rest → lengths front ≡ done → IsNext size region off len done p
next_piece size region off len done front rest p covers is sum =
    let joined : AreConsecutive size region off (front ++ p ∷ rest) = subst (AreConsecutive size region off) is covers.joined in
    let total : lengths (front ++ p ∷ rest) ≡ len = ap lengths (sym is) ∙ covers.lengths in
    record {
      at = subst (λ (n : ℕ). IsPieceAt size region (off + n) p) sum (joined_at size region off front p rest joined);
      short = omega (arith, total, sum, sum_by-append (λ (r : Piece). r.len) front (p ∷ rest), sum_by-cons (λ (r : Piece). r.len) p rest);
      border = elim (at_border size region off front p rest joined (subst (λ ps. IsStrictlyIncreasing (map (λ (q : Piece). q.key.page) ps)) is covers.rising)) [
        | inl none ↦ inl (sym sum ∙ ap lengths none)
        | inr place ↦ inr place
      ];
    }

pub pieces_follow : PiecesCover → PiecesFollow
pieces_follow cover = record {
  next = λ size region off len done front rest p some is sum. next_piece size region off len done front rest p (cover size region off len some) is sum;
  all = λ size region off len done some sum. sym sum ∙ (cover size region off len some).lengths;
}
