-- A range is its first piece and what lies behind it.
use Rattle.std.proofs.Common.{◌≡◌, ℕ, zero, suc, ◌+◌, ◌-◌, ◌*◌, ◌/◌, ◌%◌, ◌<◌, ◌≤◌, ◌==◌, false, inl, inr, min, [], ◌∷◌, map, refl, sym, ap, ap₂, subst, ◌∙◌, arith}
use Rattle.std.proofs.lemmas.Bool.{cases_lt}
use Rattle.std.proofs.lemmas.Bool.Decides.{nat_tests}
use Rattle.std.proofs.lemmas.Nat.{div-add-mod', div-mul-add, le-div}
use Rattle.std.specs.List.{range_with_len}
use Rattle.page_base.specs.declared.keys.Piece.{Piece}
use Rattle.region_table.specs.Pieces.{piece_in, pieces_of}

abbrev pub piece : (region page place len : ℕ) → Piece
piece region page place len = record { key = record { region = region; page = page }; place = place; len = len }

-- in a page behind both starts the two ranges have the same piece
same_piece : (P r off off' stop page : ℕ) → off ≤ page * P → off' ≤ page * P → piece_in P r off stop page ≡ piece_in P r off' stop page
same_piece P r off off' stop page low low' = ap₂ (piece r page) (omega arith) (omega arith)

same_behind : (P r off off' stop from n : ℕ) → off ≤ from * P → off' ≤ from * P → map (piece_in P r off stop) (range_with_len from n) ≡ map (piece_in P r off' stop) (range_with_len from n)
same_behind P r off off' stop from zero low low' = refl
same_behind P r off off' stop from (suc n) low low' =
    ap₂ ◌∷◌ (same_piece P r off off' stop from low low')
    (same_behind P r off off' stop (from + 1) n (omega arith) (omega arith))

pub nonempty : (P r off left : ℕ) → 1 ≤ left → pieces_of P r off left ≡ map (piece_in P r off (off + left)) (range_with_len (off / P) ((off + left - 1) / P + 1 - off / P))
nonempty P r off left some = let more : (left == 0) ≡ false = grind (arith, nat_tests) in rw more refl

-- the range ends in the page that it begins in
in_one_page : (P r off left : ℕ) → 1 ≤ P → 1 ≤ left → left ≤ P - off % P → pieces_of P r off left ≡ piece r (off / P) (off % P) left ∷ []
in_one_page P r off left sized some short =
    let whole = div-add-mod' off P in
    let last : (off + left - 1) / P ≡ off / P = ap (λ n. n / P) (let e : off + left - 1 ≡ off / P * P + (off % P + left - 1) = omega arith in e) ∙ div-mul-add (off / P) P (off % P + left - 1) (omega arith) in
    let one : (off + left - 1) / P + 1 - off / P ≡ 1 = omega arith in
    nonempty P r off left some
    ∙ ap (λ n. map (piece_in P r off (off + left)) (range_with_len (off / P) n)) one
    ∙ ap₂ (λ place len. piece r (off / P) place len ∷ []) (omega arith) (omega arith)

-- the range goes on behind the page that it begins in
past_page : (P r off left : ℕ) → 1 ≤ P → P - off % P < left → pieces_of P r off left ≡ piece r (off / P) (off % P) (P - off % P) ∷ pieces_of P r (off + (P - off % P)) (left - (P - off % P))
past_page P r off left sized long =
    let whole = div-add-mod' off P in
    let page = off / P in
    let next = off + (P - off % P) in
    let at : off + (P - off % P) ≡ (off / P + 1) * P = omega arith in
    let here : (off + (P - off % P)) / P ≡ off / P + 1 = ap (λ n. n / P) (let e : off + (P - off % P) ≡ (off / P + 1) * P + 0 = omega arith in e) ∙ div-mul-add (off / P + 1) P 0 (omega arith) in
    let stop : off + (P - off % P) + (left - (P - off % P)) ≡ off + left = omega arith in
    let last : off / P + 1 ≤ (off + left - 1) / P = le-div (off / P + 1) (off + left - 1) P sized (omega arith) in
    let count : (off + left - 1) / P + 1 - off / P ≡ suc ((off + left - 1) / P + 1 - (off / P + 1)) = omega arith in
    let rest : pieces_of P r (off + (P - off % P)) (left - (P - off % P)) ≡ map (piece_in P r (off + (P - off % P)) (off + left)) (range_with_len (off / P + 1) ((off + left - 1) / P + 1 - (off / P + 1))) =
    nonempty P r (off + (P - off % P)) (left - (P - off % P)) (omega arith)
    ∙ ap₂ (λ end first. map (piece_in P r (off + (P - off % P)) end) (range_with_len first ((end - 1) / P + 1 - first))) stop here in
    nonempty P r off left (omega arith)
    ∙ ap (λ n. map (piece_in P r off (off + left)) (range_with_len (off / P) n)) count
    ∙ ap₂ ◌∷◌ (ap₂ (piece r (off / P)) (omega arith) (omega arith))
    (same_behind P r off (off + (P - off % P)) (off + left) (off / P + 1) ((off + left - 1) / P + 1 - (off / P + 1)) (omega arith) (omega arith) ∙ sym rest)

pub first_piece : (P r off left len : ℕ) → 1 ≤ P → 1 ≤ left → len ≡ min left (P - off % P) → pieces_of P r off left ≡ piece r (off / P) (off % P) len ∷ pieces_of P r (off + len) (left - len)
first_piece P r off left len sized some is =
    elim (cases_lt (P - off % P) left) [
      | inl long ↦ (let e : P - off % P ≡ len = omega arith in
          subst (λ l. pieces_of P r off left ≡ piece r (off / P) (off % P) l ∷ pieces_of P r (off + l) (left - l)) e (past_page P r off left sized long))
      | inr short ↦ (let e : left ≡ len = omega arith in
          let none : left - left ≡ 0 = omega arith in
          subst (λ l. pieces_of P r off left ≡ piece r (off / P) (off % P) l ∷ pieces_of P r (off + l) (left - l)) e
          (in_one_page P r off left sized some short ∙ ap (λ n. piece r (off / P) (off % P) left ∷ pieces_of P r (off + left) n) (sym none)))
    ]

-- the same for a unit that was counted beside
pub first_piece_of : (P unit r off left len : ℕ) → unit ≡ P → 1 ≤ P → (left ≡ 0 → ⊥) → len ≡ min left (unit - off % unit) → pieces_of P r off left ≡ piece r (off / unit) (off % unit) len ∷ pieces_of P r (off + len) (left - len)
first_piece_of P unit r off left len same sized some is =
    let F : ℕ → Type 0 = λ u. len ≡ min left (u - off % u) → pieces_of P r off left ≡ piece r (off / u) (off % u) len ∷ pieces_of P r (off + len) (left - len) in
    let all : F P = first_piece P r off left len sized (omega arith) in
    subst F (sym same) all is
