-- A part over bytes of its file: what a read gives, and what a write does to what is told.
use Rattle.std.proofs.Common.{◌≡◌, ◌≢◌, inl, inr, ℕ, zero, suc, ◌+◌, ◌*◌, ◌-◌, ◌/◌, ◌≤◌, true, List, [], ◌∷◌, length, take, drop, replicate, slice_range, Option, Some, None, refl, sym, ap, subst, ◌∙◌, arith, rules}
use Rattle.std.specs.Option.{is_some, IfSome}
use Rattle.std.proofs.lemmas.Bool.{cases_Bool, cond-true, cond-false, and_parts, ltb-true}
use Rattle.std.proofs.lemmas.List.{places, same_lists, take-replicate, drop-replicate}
use Rattle.std.proofs.Math.Nat.{add-sub_cancel_left}
use Rattle.page_base.specs.ListSeen.{spliced}
use Rattle.page_base.specs.Lanes.{Origin, has_page, told_at}
use Rattle.store_trait.specs.Lanes.{ChangesOnly, retold}
use Rattle.store_trait.specs.Memory.{page_bytes, told_by}
use Rattle.store_trait.specs.WholePages.{length-told_by, told_at-told_by}
use Rattle.file_store.specs.Parts.{Extent, striped, whole, IsPartRange, piece_at, reach, told_pieces, IsRangeOf, rewritten, RangeDiffers, DiffersWithin, IsZeroed}
use Rattle.file_store.proofs.Rows.{told_of_page, same_told_at, rows_apart, page_of-spliced_other, page_of-spliced_same}

pub row_inside : (o : Origin) (p : ℕ) → has_page o p ≡ true → p * o.page_size + o.page_size ≤ o.pages * o.page_size
row_inside o p its = rows_apart p o.pages o.page_size (ltb-true p o.pages (and_parts _ _ its).0)

-- a range lies inside its part
pub range_inside : (e : Extent) (place n : ℕ) → IsPartRange e place n → place + n ≤ reach e
range_inside (striped o) place n here = omega (arith, here.whole, here.one_page, row_inside o (place / o.page_size) here.of_lane)
range_inside (whole size) place n here = here

pub range_read : (e : Extent) (place : ℕ) (xs buf : List ℕ) → IsPartRange e place (length buf) → buf ≡ take (length buf) (drop place xs) → IsRangeOf e place (told_at (told_pieces e xs) (piece_at e place)) buf
range_read (striped o) place xs buf here is =
    let P : Option (List ℕ) → Type 0 = λ t. IfSome t (λ kept. buf ≡ kept) in
    subst P (sym (told_of_page o (page_bytes o.page_size xs) (place / o.page_size) here.of_lane)) (is ∙ ap (λ (n : ℕ). take n (drop place xs)) here.one_page ∙ ap (λ (a : ℕ). take o.page_size (drop a xs)) here.whole ∙ ap (λ (n : ℕ). take n (drop (place / o.page_size * o.page_size) xs)) (sym (add-sub_cancel_left (place / o.page_size * o.page_size) o.page_size)))
range_read (whole size) place xs buf here is = is ∙ ap (λ (n : ℕ). take n (drop place xs)) (sym (add-sub_cancel_left place (length buf)))

pub range_written : (e : Extent) (place : ℕ) (xs new : List ℕ) → length xs ≡ reach e → IsPartRange e place (length new) → told_at (told_pieces e (spliced xs place new)) (piece_at e place) ≡ rewritten e place (told_at (told_pieces e xs) (piece_at e place)) new
range_written (striped o) place xs new sized here =
    let p : ℕ = place / o.page_size in
    let fits : p * o.page_size + o.page_size ≤ length xs = omega (arith, sized, row_inside o p here.of_lane) in
    told_of_page o (page_bytes o.page_size (spliced xs place new)) p here.of_lane
    ∙ ap Some (ap (λ (a : ℕ). page_bytes o.page_size (spliced xs a new) p) here.whole ∙ page_of-spliced_same o.page_size p xs new here.one_page fits)
    ∙ sym (ap (λ t. retold t new) (told_of_page o (page_bytes o.page_size xs) p here.of_lane))
range_written (whole size) place xs new sized here = refl

one_piece : (xs ys : List ℕ) → ChangesOnly 0 (Some xs ∷ []) (Some ys ∷ [])
one_piece xs ys = record { as_many = refl; others = other; stays_told = refl }
  where
    other : (q : ℕ) → q ≢ 0 → told_at (Some ys ∷ []) q ≡ told_at (Some xs ∷ []) q
    other zero apart = absurd (apart refl)
    other (suc q) apart = refl

differs : (xs new : List ℕ) (a : ℕ) → a + length new ≤ length xs → DiffersWithin a (length new) xs (spliced xs a new)
differs xs new a fits = record {
  size = grind (arith, places);
  before = same_lists _ _ (search (rules, places)) (λ k d h. grind (arith, places));
  behind = same_lists _ _ (search (rules, places)) (λ k d h. grind (arith, places));
}

pub range_differs : (e : Extent) (place : ℕ) (xs new : List ℕ) → length xs ≡ reach e → IsPartRange e place (length new) → RangeDiffers e place (length new) (told_pieces e xs) (told_pieces e (spliced xs place new))
range_differs (striped o) place xs new sized here = record {
  pieces = record {
    as_many = length-told_by o (page_bytes o.page_size (spliced xs place new)) ∙ sym (length-told_by o (page_bytes o.page_size xs));
    others = λ q apart. same_told_at o (page_bytes o.page_size (spliced xs place new)) (page_bytes o.page_size xs) q (λ has_q.
        ap (λ (a : ℕ). page_bytes o.page_size (spliced xs a new) q) here.whole ∙ page_of-spliced_other o.page_size (place / o.page_size) q xs new here.one_page fits (λ e. apart (sym e)));
    stays_told = ap is_some (told_of_page o (page_bytes o.page_size (spliced xs place new)) (place / o.page_size) here.of_lane) ∙ sym (ap is_some (told_of_page o (page_bytes o.page_size xs) (place / o.page_size) here.of_lane));
  };
  within = tt;
}
  where
    fits : place / o.page_size * o.page_size + o.page_size ≤ length xs
    fits = omega (arith, sized, row_inside o (place / o.page_size) here.of_lane)
range_differs (whole size) place xs new sized here = record { pieces = one_piece xs (spliced xs place new); within = differs xs new place (omega (arith, sized, here)) }

zero_range : (xs : List ℕ) (m a n : ℕ) → xs ≡ replicate m 0 → a + n ≤ m → slice_range xs a (a + n) ≡ replicate n 0
zero_range xs m a n e fits =
    rw (add-sub_cancel_left a n) (ap (λ (ys : List ℕ). take n (drop a ys)) e ∙ ap (λ (ys : List ℕ). take n ys) (drop-replicate a m 0) ∙ take-replicate n (m - a) 0 (omega arith))

pub zeroed : (e : Extent) (xs : List ℕ) → xs ≡ replicate (reach e) 0 → IsZeroed e (told_pieces e xs) (told_pieces e xs)
zeroed (whole size) xs zeros = record { as_told = λ p. refl; zeros = in_one }
  where
    in_one : (p : ℕ) → IfSome (told_at (Some xs ∷ []) p) (λ piece. piece ≡ replicate size 0)
    in_one zero = zeros
    in_one (suc p) = tt
zeroed (striped o) xs zeros = record { as_told = λ p. refl; zeros = each }
  where
    P : Option (List ℕ) → Type 0
    P t = IfSome t (λ piece. piece ≡ replicate o.page_size 0)

    each : (p : ℕ) → P (told_at (told_by o (page_bytes o.page_size xs)) p)
    each p = subst P (sym (told_at-told_by o (page_bytes o.page_size xs) p)) (elim (cases_Bool (has_page o p)) [
      | inl its ↦ subst P (sym (cond-true (has_page o p) (Some (page_bytes o.page_size xs p)) None its)) (zero_range xs (o.pages * o.page_size) (p * o.page_size) o.page_size zeros (row_inside o p its))
      | inr other ↦ subst P (sym (cond-false (has_page o p) (Some (page_bytes o.page_size xs p)) None other)) tt
    ])

-- what a copy out of the part's bytes gives
pub copied : (e : Extent) (place n : ℕ) (xs buf : List ℕ) → length buf ≡ n → IsPartRange e place n → buf ≡ slice_range xs place (place + n) → IsRangeOf e place (told_at (told_pieces e xs) (piece_at e place)) buf
copied e place n xs buf size here is = range_read e place xs buf (subst (λ (m : ℕ). IsPartRange e place m) (sym size) here) (is ∙ ap (λ (m : ℕ). take m (drop place xs)) (add-sub_cancel_left place n ∙ sym size))
