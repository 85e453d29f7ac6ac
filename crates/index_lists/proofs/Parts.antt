-- What a test leaves of a list, where the list or the test changes at one number.
use Rattle.std.proofs.Common.{◌≡◌, ◌≢◌, ◌∙◌, ℕ, zero, suc, ◌<◌, ◌≤◌, Bool, true, false, not, cond, ◌==◌, ◌&&◌, ◌||◌, List, [], ◌∷◌, ◌++◌, length, filter, find, Some, None, ◌⊎◌, inl, inr, refl, sym, ap, subst, arith, append-nil, length-set, get_or-set_same, get_or-set_other}
use Rattle.std.specs.Prelude.{slice_index_or}
use Rattle.std.specs.List.{list_any, slice_get}
use Rattle.std.proofs.lemmas.Bool.{cases_eq, eqb-true, eq-eqb, false_from_ne_true}
use Rattle.std.proofs.lemmas.Bool.Decides.{nat_tests}
use Rattle.std.proofs.lemmas.List.{length-map, get_or-map}
use Rattle.std.proofs.lemmas.List.Elements.{filter-append}
use Rattle.index_lists.specs.Lists.{ListsSeen, list_at, has, pushed, removed, without}
use Rattle.index_lists.specs.InsideOrders.{AreParts}
use Rattle.index_lists.proofs.Counts.{one, count, count-cons, without-none, one-same}

-- ---- numbers in a list

pub count_head : (x : ℕ) (xs : List ℕ) → 1 ≤ count x (x ∷ xs)
count_head x xs = let cons = count-cons x x xs in let same = one-same x in omega arith

pub count_tail : (y x : ℕ) (xs : List ℕ) → 1 ≤ count y xs → 1 ≤ count y (x ∷ xs)
count_tail y x xs there = let cons = count-cons y x xs in omega arith

pub apart_of : (n x : ℕ) (xs : List ℕ) → count n xs ≡ 0 → 1 ≤ count x xs → x ≢ n
apart_of n x xs none there e = let same : count x xs ≡ count n xs = ap (λ m. count m xs) e in omega arith

pub has_counted : (n : ℕ) (xs : List ℕ) → 1 ≤ count n xs → has n xs ≡ true
has_counted n [] e = absurd (omega arith)
has_counted n (x ∷ xs) e = grind (arith, nat_tests, count-cons n x xs, has_counted n xs)

pub counted_has : (n : ℕ) (xs : List ℕ) → has n xs ≡ true → 1 ≤ count n xs
counted_has n [] e = absurd cc
counted_has n (x ∷ xs) e = grind (arith, nat_tests, count-cons n x xs, counted_has n xs)

pub has_not : (n : ℕ) (xs : List ℕ) → count n xs ≡ 0 → has n xs ≡ false
has_not n xs e = false_from_ne_true (has n xs) (λ yes. let some = counted_has n xs yes in absurd (omega arith))

pub count_got : (n : ℕ) (xs : List ℕ) (place : ℕ) → slice_get xs place ≡ Some n → 1 ≤ count n xs
count_got n [] place is = absurd cc
count_got n (x ∷ xs) zero is = let same : x ≡ n = cc in subst (λ y. 1 ≤ count n (y ∷ xs)) (sym same) (count_head n xs)
count_got n (x ∷ xs) (suc place) is = count_tail n x xs (count_got n xs place is)

pub place_got : (n : ℕ) (xs : List ℕ) → 1 ≤ count n xs → (place : ℕ) × (slice_get xs place ≡ Some n)
place_got n [] there = absurd (omega arith)
place_got n (x ∷ xs) there = by_test (x == n) refl (place_got n xs)
  where
    by_test : (b : Bool) → (x == n) ≡ b → (1 ≤ count n xs → (place : ℕ) × (slice_get xs place ≡ Some n)) → (place : ℕ) × (slice_get (x ∷ xs) place ≡ Some n)
    by_test true e rest = (0, ap (λ y. Some y) (eqb-true x n e))
    by_test false e rest =
        let cons = count-cons n x xs in
        let other : one (x == n) ≡ 0 = ap one e in
        let later = rest (omega arith) in
        (suc later.0, later.1)

-- ---- filters

pub filter-agree : (p q : ℕ → Bool) (xs : List ℕ) → ((x : ℕ) → 1 ≤ count x xs → p x ≡ q x) → filter p xs ≡ filter q xs
filter-agree p q [] agree = refl
filter-agree p q (x ∷ xs) agree =
    let here : p x ≡ q x = agree x (count_head x xs) in
    let rest : filter p xs ≡ filter q xs = filter-agree p q xs (λ y there. agree y (count_tail y x xs there)) in
    rw (here, rest) refl

pub filter_swap : (p q : ℕ → Bool) (xs : List ℕ) → filter p (filter q xs) ≡ filter q (filter p xs)
filter_swap p q [] = refl
filter_swap p q (x ∷ xs) = by_tests (p x) (q x) refl refl (filter_swap p q xs)
  where
    by_tests : (b d : Bool) → p x ≡ b → q x ≡ d → filter p (filter q xs) ≡ filter q (filter p xs)
        → filter p (cond d (x ∷ filter q xs) (filter q xs)) ≡ filter q (cond b (x ∷ filter p xs) (filter p xs))
    by_tests true true e f rest = rw (e, f) (ap (λ ys. x ∷ ys) rest)
    by_tests true false e f rest = rw f rest
    by_tests false true e f rest = rw e rest
    by_tests false false e f rest = rest

pub filter_both : (p q : ℕ → Bool) (xs : List ℕ) → filter (λ x. p x && q x) xs ≡ filter q (filter p xs)
filter_both p q [] = refl
filter_both p q (x ∷ xs) = by_test (p x) (filter_both p q xs)
  where
    by_test : (b : Bool) → filter (λ y. p y && q y) xs ≡ filter q (filter p xs)
        → cond (b && q x) (x ∷ filter (λ y. p y && q y) xs) (filter (λ y. p y && q y) xs) ≡ filter q (cond b (x ∷ filter p xs) (filter p xs))
    by_test true rest = rw rest refl
    by_test false rest = rest

pub count_filter-le : (n : ℕ) (p : ℕ → Bool) (xs : List ℕ) → count n (filter p xs) ≤ count n xs
count_filter-le n p [] = omega arith
count_filter-le n p (x ∷ xs) = by_test (p x) (count_filter-le n p xs)
  where
    by_test : (b : Bool) → count n (filter p xs) ≤ count n xs → count n (cond b (x ∷ filter p xs) (filter p xs)) ≤ count n (x ∷ xs)
    by_test true rest = let cons = count-cons n x xs in let kept = count-cons n x (filter p xs) in omega arith
    by_test false rest = let cons = count-cons n x xs in omega arith

pub count_filter-there : (n : ℕ) (p : ℕ → Bool) (xs : List ℕ) → p n ≡ true → count n (filter p xs) ≡ count n xs
count_filter-there n p [] e = refl
count_filter-there n p (x ∷ xs) e = by_tests (p x) (x == n) refl refl (count_filter-there n p xs e)
  where
    by_tests : (b d : Bool) → p x ≡ b → (x == n) ≡ d → count n (filter p xs) ≡ count n xs → count n (cond b (x ∷ filter p xs) (filter p xs)) ≡ count n (x ∷ xs)
    by_tests true d f g rest = let cons = count-cons n x xs in let kept = count-cons n x (filter p xs) in omega arith
    by_tests false true f g rest = let is : p x ≡ true = rw (eqb-true x n g) e in absurd (cc (is, f))
    by_tests false false f g rest = let cons = count-cons n x xs in let other : one (x == n) ≡ 0 = ap one g in omega arith

pub count_filter-out : (n : ℕ) (p : ℕ → Bool) (xs : List ℕ) → p n ≡ false → count n (filter p xs) ≡ 0
count_filter-out n p [] e = refl
count_filter-out n p (x ∷ xs) e = by_tests (p x) (x == n) refl refl (count_filter-out n p xs e)
  where
    by_tests : (b d : Bool) → p x ≡ b → (x == n) ≡ d → count n (filter p xs) ≡ 0 → count n (cond b (x ∷ filter p xs) (filter p xs)) ≡ 0
    by_tests true true f g rest = let is : p x ≡ false = rw (eqb-true x n g) e in absurd (cc (is, f))
    by_tests true false f g rest = let kept = count-cons n x (filter p xs) in let other : one (x == n) ≡ 0 = ap one g in omega arith
    by_tests false d f g rest = rest

pub length_filter-le : (p : ℕ → Bool) (xs : List ℕ) → length (filter p xs) ≤ length xs
length_filter-le p [] = omega arith
length_filter-le p (x ∷ xs) = by_test (p x) (length_filter-le p xs)
  where
    by_test : (b : Bool) → length (filter p xs) ≤ length xs → length (cond b (x ∷ filter p xs) (filter p xs)) ≤ suc (length xs)
    by_test true rest = omega arith
    by_test false rest = omega arith

pub filter_push_true : (p : ℕ → Bool) (xs : List ℕ) (n : ℕ) → p n ≡ true → filter p (xs ++ n ∷ []) ≡ filter p xs ++ n ∷ []
filter_push_true p xs n e = filter-append p xs (n ∷ []) ∙ rw e refl

pub filter_push_false : (p : ℕ → Bool) (xs : List ℕ) (n : ℕ) → p n ≡ false → filter p (xs ++ n ∷ []) ≡ filter p xs
filter_push_false p xs n e = filter-append p xs (n ∷ []) ∙ rw e (append-nil (filter p xs))

-- a number fails that passed
filter_unmark : (p q : ℕ → Bool) (n : ℕ) (xs : List ℕ) → ((x : ℕ) → x ≢ n → q x ≡ p x) → q n ≡ false → without n (filter p xs) ≡ filter q xs
filter_unmark p q n [] agree fails = refl
filter_unmark p q n (x ∷ xs) agree fails = by_tests (p x) (q x) (x == n) refl refl refl (filter_unmark p q n xs agree fails)
  where
    by_tests : (b d t : Bool) → p x ≡ b → q x ≡ d → (x == n) ≡ t → without n (filter p xs) ≡ filter q xs
        → without n (cond b (x ∷ filter p xs) (filter p xs)) ≡ cond d (x ∷ filter q xs) (filter q xs)
    by_tests b true true f g h rest = let is : q x ≡ false = rw (eqb-true x n h) fails in absurd (cc (is, g))
    by_tests true false true f g h rest = rw h rest
    by_tests false false true f g h rest = rest
    by_tests true true false f g h rest = rw h (ap (λ ys. x ∷ ys) rest)
    by_tests false false false f g h rest = rest
    by_tests true false false f g h rest = absurd (let same : q x ≡ p x = agree x (λ e. (let yes = eq-eqb x n e in cc (yes, h))) in cc (same, f, g))
    by_tests false true false f g h rest = absurd (let same : q x ≡ p x = agree x (λ e. (let yes = eq-eqb x n e in cc (yes, h))) in cc (same, f, g))

pub find_first : (p : ℕ → Bool) (xs : List ℕ) → find p xs ≡ slice_get (filter p xs) 0
find_first p [] = refl
find_first p (x ∷ xs) = by_test (p x) (find_first p xs)
  where
    by_test : (b : Bool) → find p xs ≡ slice_get (filter p xs) 0 → cond b (Some x) (find p xs) ≡ slice_get (cond b (x ∷ filter p xs) (filter p xs)) 0
    by_test true rest = refl
    by_test false rest = rest

pub find_filter : (p q : ℕ → Bool) (xs : List ℕ) → find (λ x. p x && q x) xs ≡ find q (filter p xs)
find_filter p q xs = find_first (λ x. p x && q x) xs ∙ (ap (λ ys. slice_get ys 0) (filter_both p q xs) ∙ sym (find_first q (filter p xs)))

pub find_both_none : (p q : ℕ → Bool) (xs : List ℕ) → None ≡ find p xs → None ≡ find (λ x. p x && q x) xs
find_both_none p q [] none = refl
find_both_none p q (x ∷ xs) none = by_test (p x) none (find_both_none p q xs)
  where
    by_test : (b : Bool) → None ≡ cond b (Some x) (find p xs) → (None ≡ find p xs → None ≡ find (λ y. p y && q y) xs) → None ≡ cond (b && q x) (Some x) (find (λ y. p y && q y) xs)
    by_test true e rest = absurd cc
    by_test false e rest = rest e

pub found : (p : ℕ → Bool) (xs : List ℕ) (n : ℕ) → find p xs ≡ Some n → (p n ≡ true) × (1 ≤ count n xs)
found p [] n is = absurd cc
found p (x ∷ xs) n is = by_test (p x) refl is (found p xs n)
  where
    by_test : (b : Bool) → p x ≡ b → cond b (Some x) (find p xs) ≡ Some n → (find p xs ≡ Some n → (p n ≡ true) × (1 ≤ count n xs)) → (p n ≡ true) × (1 ≤ count n (x ∷ xs))
    by_test true e at rest = let same : x ≡ n = cc in (rw same at e, subst (λ y. 1 ≤ count n (y ∷ xs)) (sym same) (count_head n xs))
    by_test false e at rest = let later = rest at in (later.0, count_tail n x xs later.1)

-- the first of a list that isn't its head
pub find_but : (x : ℕ) (xs : List ℕ) → count x (x ∷ xs) ≤ 1 → find (λ y. not (y == x)) (x ∷ xs) ≡ slice_get xs 0
find_but x xs once =
    let self : (x == x) ≡ true = eq-eqb x x refl in
    rw self (behind xs (let cons = count-cons x x xs in let same = one-same x in omega arith))
  where
    behind : (ys : List ℕ) → count x ys ≡ 0 → find (λ y. not (y == x)) ys ≡ slice_get ys 0
    behind [] none = refl
    behind (y ∷ ys) none =
        let differs : (y == x) ≡ false = false_from_ne_true (y == x) (λ e. (let cons = count-cons x y ys in let counts : one (y == x) ≡ 1 = ap one e in absurd (omega arith))) in
        rw differs refl

-- ---- the parts of an order

-- a number at the end of the order, and of its own part
pub part_pushed : (lists : ListsSeen) (groups : ℕ) (test new : ℕ → ℕ → Bool) (order : List ℕ) (g n : ℕ) → AreParts lists groups test order → count n order ≡ 0 → g < groups
    → ((k x : ℕ) → x ≢ n → new k x ≡ test k x) → ((k : ℕ) → new k n ≡ (g == k)) → AreParts (pushed lists g n) groups new (order ++ n ∷ [])
part_pushed lists groups test new order g n parts fresh below agree here = record {
  many = length-set lists.lists g _ ∙ parts.many;
  part = λ k lt. by_group k lt (cases_eq k g);
}
  where
    kept : (k : ℕ) → filter (new k) order ≡ filter (test k) order
    kept k = filter-agree (new k) (test k) order (λ x there. agree k x (apart_of n x order fresh there))

    by_group : (k : ℕ) → k < groups → (k ≡ g) ⊎ (k ≢ g) → list_at (pushed lists g n) k ≡ filter (new k) (order ++ n ∷ [])
    by_group k lt (inl e) =
        let many = parts.many in
        let passes : new k n ≡ true = here k ∙ eq-eqb g k (sym e) in
        let set : list_at (pushed lists g n) g ≡ list_at lists g ++ n ∷ [] = get_or-set_same lists.lists g _ [] (omega arith) in
        ap (list_at (pushed lists g n)) e ∙ (set ∙ (ap (λ ys. ys ++ n ∷ []) (ap (list_at lists) (sym e) ∙ (parts.part k lt ∙ sym (kept k))) ∙ sym (filter_push_true (new k) order n passes)))
    by_group k lt (inr differs) =
        let fails : new k n ≡ false = here k ∙ false_from_ne_true (g == k) (λ yes. differs (sym (eqb-true g k yes))) in
        get_or-set_other lists.lists g k _ [] differs ∙ (parts.part k lt ∙ (sym (kept k) ∙ sym (filter_push_false (new k) order n fails)))

-- a number at the end of the order that is of no part
pub part_passed : (lists : ListsSeen) (groups : ℕ) (test new : ℕ → ℕ → Bool) (order : List ℕ) (n : ℕ) → AreParts lists groups test order → count n order ≡ 0
    → ((k x : ℕ) → x ≢ n → new k x ≡ test k x) → ((k : ℕ) → new k n ≡ false) → AreParts lists groups new (order ++ n ∷ [])
part_passed lists groups test new order n parts fresh agree fails = record {
  many = parts.many;
  part = λ k lt. parts.part k lt ∙ (sym (filter-agree (new k) (test k) order (λ x there. agree k x (apart_of n x order fresh there))) ∙ sym (filter_push_false (new k) order n (fails k)));
}

-- a number out of the order and of its part
pub part_removed : (lists : ListsSeen) (groups : ℕ) (test : ℕ → ℕ → Bool) (order : List ℕ) (n : ℕ) → AreParts lists groups test order → AreParts (removed lists n) groups test (without n order)
part_removed lists groups test order n parts = record {
  many = length-map lists.lists (without n) ∙ parts.many;
  part =
      λ k lt.
      let many = parts.many in
      get_or-map (without n) lists.lists k [] [] (omega arith) ∙ (ap (without n) (parts.part k lt) ∙ filter_swap (λ other. not (other == n)) (test k) order);
}

-- a number out of the order that is of no part
pub part_missed : (lists : ListsSeen) (groups : ℕ) (test : ℕ → ℕ → Bool) (order : List ℕ) (n : ℕ) → AreParts lists groups test order → ((k : ℕ) → test k n ≡ false) → AreParts lists groups test (without n order)
part_missed lists groups test order n parts fails = record {
  many = parts.many;
  part = λ k lt. parts.part k lt ∙ (sym (without-none n (filter (test k) order) (count_filter-out n (test k) order (fails k))) ∙ filter_swap (λ other. not (other == n)) (test k) order);
}

-- a number out of its part, and still in the order
pub part_unmarked : (lists : ListsSeen) (groups : ℕ) (test new : ℕ → ℕ → Bool) (order : List ℕ) (n : ℕ) → AreParts lists groups test order
    → ((k x : ℕ) → x ≢ n → new k x ≡ test k x) → ((k : ℕ) → new k n ≡ false) → AreParts (removed lists n) groups new order
part_unmarked lists groups test new order n parts agree fails = record {
  many = length-map lists.lists (without n) ∙ parts.many;
  part =
      λ k lt.
      let many = parts.many in
      get_or-map (without n) lists.lists k [] [] (omega arith) ∙ (ap (without n) (parts.part k lt) ∙ filter_unmark (test k) (new k) n order (agree k) (fails k));
}

-- another test that is the same at the members
pub part_kept : (lists : ListsSeen) (groups : ℕ) (test new : ℕ → ℕ → Bool) (order : List ℕ) → AreParts lists groups test order → ((k x : ℕ) → 1 ≤ count x order → new k x ≡ test k x) → AreParts lists groups new order
part_kept lists groups test new order parts agree = record { many = parts.many; part = λ k lt. parts.part k lt ∙ sym (filter-agree (new k) (test k) order (agree k)) }

-- what stands in a part stands in the order, and the other way round
pub stands_part : (lists : ListsSeen) (groups : ℕ) (test : ℕ → ℕ → Bool) (order : List ℕ) (g n : ℕ) → AreParts lists groups test order → g < groups → test g n ≡ true → 1 ≤ count n order → list_any (has n) lists.lists ≡ true
stands_part lists groups test order g n parts below passes there =
    let many = parts.many in
    let here : 1 ≤ count n (list_at lists g) = rw (parts.part g below, count_filter-there n (test g) order passes) there in
    any_at lists.lists g (omega arith) here
  where
    any_at : (ls : List (List ℕ)) (i : ℕ) → i < length ls → 1 ≤ count n (slice_index_or ls i []) → list_any (has n) ls ≡ true
    any_at [] i lt some = absurd (omega arith)
    any_at (xs ∷ ls) zero lt some = ap (λ b. b || list_any (has n) ls) (has_counted n xs some)
    any_at (xs ∷ ls) (suc i) lt some = ap (λ b. has n xs || b) (any_at ls i (omega arith) some) ∙ either (has n xs)
      where
        either : (b : Bool) → (b || true) ≡ true
        either true = refl
        either false = refl

pub stands_nowhere : (lists : ListsSeen) (groups : ℕ) (test : ℕ → ℕ → Bool) (order : List ℕ) (n : ℕ) → AreParts lists groups test order → ((k : ℕ) → k < groups → count n (filter (test k) order) ≡ 0) → list_any (has n) lists.lists ≡ false
stands_nowhere lists groups test order n parts none = go lists.lists (λ i lt. (let many = parts.many in rw (parts.part i (omega arith)) (none i (omega arith))))
  where
    go : (ls : List (List ℕ)) → ((i : ℕ) → i < length ls → count n (slice_index_or ls i []) ≡ 0) → list_any (has n) ls ≡ false
    go [] each = refl
    go (xs ∷ ls) each =
        let here : has n xs ≡ false = has_not n xs (each 0 (omega arith)) in
        let rest : list_any (has n) ls ≡ false = go ls (λ i lt. each (suc i) (omega arith)) in
        rw (here, rest) refl
