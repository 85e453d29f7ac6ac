-- Stamps dealt anew along an order.
use Rattle.std.proofs.Common.{◌≡◌, ◌≢◌, ◌∙◌, ℕ, zero, suc, ◌+◌, ◌<◌, ◌≤◌, Bool, true, false, ◌==◌, ◌||◌, List, [], ◌∷◌, length, Some, None, ◌⊎◌, inl, inr, refl, sym, ap, subst, arith, All, get_or-set_same, get_or-set_other}
use Rattle.std.specs.Prelude.{slice_index_or, slice_set, map}
use Rattle.std.proofs.lemmas.List.{length-map, get_or-map}
use Rattle.std.specs.List.{list_any, slice_get, IsDistinct, AllByRecursion}
use Rattle.std.proofs.lemmas.Bool.{cases_lt, eqb-true, eq-eqb, false_from_ne_true}
use Rattle.std.proofs.lemmas.Map.Steps.{length-le_from_distinct_below}
use Rattle.std.proofs.lemmas.Option.{slice_get_within, get_or_from_slice_get, slice_get-get_or}
use Rattle.index_lists.specs.Lists.{ListsSeen, list_at, IsSound}
use Rattle.index_lists.specs.declared.place.Place.{Place}
use Rattle.index_lists.specs.InsideOrders.{no_place, place_of}
use Rattle.index_lists.proofs.Counts.{one, count, count-cons, count-le-times, one-same}
use Rattle.index_lists.proofs.Parts.{count_head, count_tail}

-- numbers below n, each once, are at most n
distinct : (xs : List ℕ) → ((x : ℕ) → count x xs ≤ 1) → IsDistinct (λ a b. a == b) xs
unfolding IsDistinct
distinct [] once = tt
distinct (x ∷ xs) once = (
  apart xs (let cons = count-cons x x xs in let same = one-same x in let was = once x in omega arith),
  distinct xs (λ y. (let cons = count-cons y x xs in let was = once y in omega arith)),
)
  where
    apart : (ys : List ℕ) → count x ys ≡ 0 → AllByRecursion (λ y. (x == y) ≡ false) ys
    apart [] none = tt
    apart (y ∷ ys) none = (
      false_from_ne_true (x == y) (λ e. (let cons = count-cons x y ys in let counts : one (y == x) ≡ 1 = ap one (eq-eqb y x (sym (eqb-true x y e))) in absurd (omega arith))),
      apart ys (let cons = count-cons x y ys in omega arith),
    )

flipped : (q : ℕ) (xs : List ℕ) → list_any (λ x. q == x) xs ≡ true → 1 ≤ count q xs
flipped q [] e = absurd cc
flipped q (x ∷ xs) e = by_test (q == x) refl e (flipped q xs)
  where
    by_test : (b : Bool) → (q == x) ≡ b → (b || list_any (λ y. q == y) xs) ≡ true → (list_any (λ y. q == y) xs ≡ true → 1 ≤ count q xs) → 1 ≤ count q (x ∷ xs)
    by_test true is e rest = subst (λ y. 1 ≤ count q (y ∷ xs)) (eqb-true q x is) (count_head q xs)
    by_test false is e rest = count_tail q x xs (rest e)

pub few_once : (xs : List ℕ) (n : ℕ) → ((x : ℕ) → count x xs ≤ 1) → ((x : ℕ) → 1 ≤ count x xs → x < n) → length xs ≤ n
few_once xs n once below = length-le_from_distinct_below xs n (distinct xs once) (λ q there. below q (flipped q xs there))

pub counted_at : (xs : List ℕ) (i : ℕ) → i < length xs → 1 ≤ count (slice_index_or xs i 0) xs
counted_at [] i lt = absurd (omega arith)
counted_at (x ∷ xs) zero lt = count_head x xs
counted_at (x ∷ xs) (suc i) lt = count_tail (slice_index_or xs i 0) x xs (counted_at xs i (omega arith))

-- two places of a list that has each number once
pub apart_at : (xs : List ℕ) (i j : ℕ) → ((x : ℕ) → count x xs ≤ 1) → i < j → j < length xs → slice_index_or xs i 0 ≢ slice_index_or xs j 0
apart_at [] i j once lt within e = absurd (omega arith)
apart_at (x ∷ xs) i zero once lt within e = absurd (omega arith)
apart_at (x ∷ xs) zero (suc j) once lt within e =
    let there = counted_at xs j (omega arith) in
    let cons = count-cons (slice_index_or xs j 0) x xs in
    let counts : one (x == slice_index_or xs j 0) ≡ 1 = ap one (eq-eqb x (slice_index_or xs j 0) e) in
    let was = once (slice_index_or xs j 0) in
    absurd (omega arith)
apart_at (x ∷ xs) (suc i) (suc j) once lt within e = apart_at xs i j (λ y. (let cons = count-cons y x xs in let was = once y in omega arith)) (omega arith) (omega arith) e

-- one stamp more
pub dealt_on : (places : List Place) (order : List ℕ) (n stamp : ℕ) (place : Place) → ((x : ℕ) → count x order ≤ 1) → slice_get order stamp ≡ Some n → n < length places → place.stamp ≡ stamp
    → ((i : ℕ) → i < stamp → i < length order → (place_of places (slice_index_or order i 0)).stamp ≡ i)
    → (i : ℕ) → i < stamp + 1 → i < length order → (place_of (slice_set places n place) (slice_index_or order i 0)).stamp ≡ i
dealt_on places order n stamp place once here within stamped dealt i lt i_in = by_place (cases_lt i stamp)
  where
    is : slice_index_or order stamp 0 ≡ n
    is = get_or_from_slice_get order stamp n 0 here

    by_place : (i < stamp) ⊎ (stamp ≤ i) → (place_of (slice_set places n place) (slice_index_or order i 0)).stamp ≡ i
    by_place (inl before) =
        let stamp_in = slice_get_within order stamp n here in
        let differs : slice_index_or order i 0 ≢ n = λ e. apart_at order i stamp once before stamp_in (e ∙ sym is) in
        ap (λ (p : Place). p.stamp) (get_or-set_other places n (slice_index_or order i 0) place no_place differs) ∙ dealt i before i_in
    by_place (inr after) =
        let same : i ≡ stamp = omega arith in
        let number : slice_index_or order i 0 ≡ n = ap (λ j. slice_index_or order j 0) same ∙ is in
        ap (λ m. (place_of (slice_set places n place) m).stamp) number ∙ (ap (λ (p : Place). p.stamp) (get_or-set_same places n place no_place within) ∙ (stamped ∙ sym same))

pub end_reached : (order : List ℕ) (place : ℕ) → slice_get order place ≡ None → length order ≤ place
end_reached order place none = by_place (cases_lt place (length order))
  where
    by_place : (place < length order) ⊎ (length order ≤ place) → length order ≤ place
    by_place (inl within) = let some = slice_get-get_or order place 0 within in absurd (cc (some, none))
    by_place (inr past) = past

-- of sound lists, the first
pub once_in : (seen : ListsSeen) → 0 < length seen.lists → IsSound seen → (x : ℕ) → count x (list_at seen 0) ≤ 1
once_in seen some sound x = let all = sound.once x in let part = count-le-times x seen.lists 0 some in omega arith

pub below_in : (seen : ListsSeen) → 0 < length seen.lists → IsSound seen → (x : ℕ) → 1 ≤ count x (list_at seen 0) → x < seen.numbers
below_in seen some sound x there = each (list_at seen 0) (sound.within 0 [] some) there
  where
    each : (xs : List ℕ) → All (λ number. number < seen.numbers) xs → 1 ≤ count x xs → x < seen.numbers
    each [] all in_it = absurd (omega arith)
    each (y ∷ ys) all in_it = by_test (y == x) refl (each ys (λ k d lt. all (suc k) d (omega arith)))
      where
        by_test : (b : Bool) → (y == x) ≡ b → (1 ≤ count x ys → x < seen.numbers) → x < seen.numbers
        by_test true e rest = subst (λ z. z < seen.numbers) (eqb-true y x e) (all 0 0 (omega arith))
        by_test false e rest = rest (let cons = count-cons x y ys in let other : one (y == x) ≡ 0 = ap one e in omega arith)

-- ---- an item that is written over by itself

pub set_as : {X : Type 0} (xs : List X) (i : ℕ) (x : X) → (i < length xs) × (slice_index_or xs i x ≡ x) → slice_set xs i x ≡ xs
set_as [] i x at = absurd (let lt = at.0 in omega arith)
set_as {X} (y ∷ ys) zero x at = let same : y ≡ x = at.1 in ap (λ z. z ∷ ys) (sym same)
set_as (y ∷ ys) (suc i) x at = ap (λ zs. y ∷ zs) (set_as ys i x ((let lt = at.0 in omega arith), at.1))

pub map_got : {X Y : Type 0} (f : X → Y) (xs : List X) (i : ℕ) (x : X) → i < length xs → x ≡ slice_index_or xs i x → (i < length (map f xs)) × (slice_index_or (map f xs) i (f x) ≡ f x)
map_got f xs i x lt is = (rw (length-map xs f) lt, get_or-map f xs i x (f x) lt ∙ ap f (sym is))
