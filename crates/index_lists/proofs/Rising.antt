-- Stamps that rise along an order, and the older of two that were found.
use Rattle.std.proofs.Common.{◌≡◌, ◌∙◌, ℕ, suc, ◌+◌, ◌<◌, ◌≤◌, Bool, true, false, not, cond, ◌==◌, ◌||◌, List, [], ◌∷◌, ◌++◌, length, find, Option, Some, None, refl, sym, ap, subst, arith}
use Rattle.std.specs.Prelude.{slice_index_or}
use Rattle.std.proofs.lemmas.Bool.{eqb-true}
use Rattle.index_lists.specs.Lists.{without}
use Rattle.index_lists.specs.declared.place.Place.{Place}
use Rattle.index_lists.specs.InsideOrders.{place_of, AreRising, AreBelow}
use Rattle.index_lists.proofs.Counts.{one, count, count-cons, count-push, count-without-le}
use Rattle.index_lists.proofs.Parts.{count_head, count_tail, found}

-- a number behind all others, with a stamp above theirs
pub rising_pushed : (places new : List Place) (order : List ℕ) (n : ℕ) → AreRising places order → ((x : ℕ) → 1 ≤ count x order → (place_of new x).stamp ≡ (place_of places x).stamp)
    → ((x : ℕ) → 1 ≤ count x order → (place_of places x).stamp < (place_of new n).stamp) → AreRising new (order ++ n ∷ [])
rising_pushed places new [] n rising same above = ((λ y there. absurd (omega arith)), tt)
rising_pushed places new (x ∷ xs) n rising same above = (
  (λ y there. by_test y (n == y) refl (let push = count-push y xs n in omega arith)),
  rising_pushed places new xs n rising.1 (λ y there. same y (count_tail y x xs there)) (λ y there. above y (count_tail y x xs there)),
)
  where
    by_test : (y : ℕ) (b : Bool) → (n == y) ≡ b → 1 ≤ count y xs + one (n == y) → (place_of new x).stamp < (place_of new y).stamp
    by_test y true e there =
        let first = above x (count_head x xs) in
        let kept = same x (count_head x xs) in
        subst (λ z. (place_of new x).stamp < (place_of new z).stamp) (eqb-true n y e) (omega arith)
    by_test y false e there =
        let other : one (n == y) ≡ 0 = ap one e in
        let in_rest : 1 ≤ count y xs = omega arith in
        let was = rising.0 y in_rest in
        let kept = same x (count_head x xs) in
        let kept' = same y (count_tail y x xs in_rest) in
        let less = was in
        omega arith

pub rising_without : (places : List Place) (order : List ℕ) (n : ℕ) → AreRising places order → AreRising places (without n order)
rising_without places [] n rising = tt
rising_without places (x ∷ xs) n rising = by_test (x == n) (rising_without places xs n rising.1)
  where
    by_test : (b : Bool) → AreRising places (without n xs) → AreRising places (cond (not b) (x ∷ without n xs) (without n xs))
    by_test true rest = rest
    by_test false rest = ((λ y there. rising.0 y (let less = count-without-le y n xs in omega arith)), rest)

pub rising_kept : (places new : List Place) (order : List ℕ) → AreRising places order → ((x : ℕ) → 1 ≤ count x order → (place_of new x).stamp ≡ (place_of places x).stamp) → AreRising new order
rising_kept places new [] rising same = tt
rising_kept places new (x ∷ xs) rising same = (
  (λ y there.
      let was = rising.0 y there in
      let kept = same x (count_head x xs) in
      let kept' = same y (count_tail y x xs there) in
      omega arith),
  rising_kept places new xs rising.1 (λ y there. same y (count_tail y x xs there)),
)

-- ---- the older of two

find_none : (p q : ℕ → Bool) (xs : List ℕ) → find p xs ≡ None → find (λ x. p x || q x) xs ≡ find q xs
find_none p q [] none = refl
find_none p q (x ∷ xs) none = by_test (p x) none (find_none p q xs)
  where
    by_test : (b : Bool) → cond b (Some x) (find p xs) ≡ None → (find p xs ≡ None → find (λ y. p y || q y) xs ≡ find q xs)
        → cond (b || q x) (Some x) (find (λ y. p y || q y) xs) ≡ cond (q x) (Some x) (find q xs)
    by_test true e rest = absurd cc
    by_test false e rest = ap (cond (q x) (Some x)) (rest e)

pub none_first : (p q : ℕ → Bool) (xs : List ℕ) (other : Option ℕ) → None ≡ find p xs → other ≡ find q xs → other ≡ find (λ x. p x || q x) xs
none_first p q xs other a b = b ∙ sym (find_none p q xs (sym a))

flip : (b d : Bool) → (b || d) ≡ (d || b)
flip true true = refl
flip true false = refl
flip false true = refl
flip false false = refl

find_flip : (p q : ℕ → Bool) (xs : List ℕ) → find (λ x. p x || q x) xs ≡ find (λ x. q x || p x) xs
find_flip p q [] = refl
find_flip p q (x ∷ xs) = let here = flip (p x) (q x) in let rest = find_flip p q xs in rw (here, rest) refl

pub none_second : (p q : ℕ → Bool) (xs : List ℕ) (one_ : Option ℕ) → one_ ≡ find p xs → None ≡ find q xs → one_ ≡ find (λ x. p x || q x) xs
none_second p q xs one_ a b = none_first q p xs one_ b a ∙ find_flip q p xs

-- the one with the lower stamp
pub older_first : (places : List Place) (p q : ℕ → Bool) (xs : List ℕ) (a b : ℕ) → AreRising places xs → Some a ≡ find p xs → Some b ≡ find q xs → (place_of places a).stamp ≤ (place_of places b).stamp → Some a ≡ find (λ x. p x || q x) xs
older_first places p q [] a b rising ea eb le = absurd cc
older_first places p q (x ∷ xs) a b rising ea eb le = by_tests (p x) (q x) ea eb (λ e f. older_first places p q xs a b rising.1 e f le)
  where
    by_tests : (s t : Bool) → Some a ≡ cond s (Some x) (find p xs) → Some b ≡ cond t (Some x) (find q xs) → (Some a ≡ find p xs → Some b ≡ find q xs → Some a ≡ find (λ y. p y || q y) xs)
        → Some a ≡ cond (s || t) (Some x) (find (λ y. p y || q y) xs)
    by_tests true t e f rest = e
    by_tests false true e f rest =
        let there = (found p xs a (sym e)).1 in
        let above = rising.0 a there in
        let same : b ≡ x = cc in
        let le' : (place_of places a).stamp ≤ (place_of places x).stamp = subst (λ z. (place_of places a).stamp ≤ (place_of places z).stamp) same le in
        absurd (omega arith)
    by_tests false false e f rest = rest e f

pub older_second : (places : List Place) (p q : ℕ → Bool) (xs : List ℕ) (a b : ℕ) → AreRising places xs → Some a ≡ find p xs → Some b ≡ find q xs → (place_of places b).stamp ≤ (place_of places a).stamp → Some b ≡ find (λ x. p x || q x) xs
older_second places p q xs a b rising ea eb le = older_first places q p xs b a rising eb ea le ∙ find_flip q p xs

-- ---- stamps dealt along the order

pub place_index : (n : ℕ) (xs : List ℕ) → 1 ≤ count n xs → (i : ℕ) × (i < length xs) × (slice_index_or xs i 0 ≡ n)
place_index n [] there = absurd (omega arith)
place_index n (x ∷ xs) there = by_test (x == n) refl (place_index n xs)
  where
    by_test : (b : Bool) → (x == n) ≡ b → (1 ≤ count n xs → (i : ℕ) × (i < length xs) × (slice_index_or xs i 0 ≡ n)) → (i : ℕ) × (i < length (x ∷ xs)) × (slice_index_or (x ∷ xs) i 0 ≡ n)
    by_test true e rest = (0, omega arith, eqb-true x n e)
    by_test false e rest =
        let cons = count-cons n x xs in
        let other : one (x == n) ≡ 0 = ap one e in
        let later = rest (omega arith) in
        (suc later.0, (let lt = later.1 in omega arith), later.2)

-- from a on
pub rising_dealt : (places : List Place) (order : List ℕ) (a : ℕ) → ((i : ℕ) → i < length order → (place_of places (slice_index_or order i 0)).stamp ≡ a + i) → AreRising places order
rising_dealt places [] a dealt = tt
rising_dealt places (x ∷ xs) a dealt = (
  (λ y there.
      let at = place_index y xs there in
      let lt = at.1 in
      let first = dealt 0 (omega arith) in
      let later : (place_of places (slice_index_or xs at.0 0)).stamp ≡ a + suc at.0 = dealt (suc at.0) (omega arith) in
      let here : (place_of places y).stamp ≡ a + suc at.0 = rw at.2 at later in
      omega arith),
  rising_dealt places xs (a + 1) (λ i lt. (let was = dealt (suc i) (omega arith) in omega arith)),
)

pub below_dealt : (places : List Place) (order : List ℕ) (end : ℕ) → length order ≤ end → ((i : ℕ) → i < length order → (place_of places (slice_index_or order i 0)).stamp ≡ i) → AreBelow places order end
below_dealt places order end few dealt n there =
    let at = place_index n order there in
    let lt = at.1 in
    let is : (place_of places (slice_index_or order at.0 0)).stamp ≡ at.0 = dealt at.0 lt in
    let here : (place_of places n).stamp ≡ at.0 = rw at.2 at is in
    omega arith
