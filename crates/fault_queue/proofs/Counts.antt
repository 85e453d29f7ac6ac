-- Lists in which a test passes once at the most, and what is left without what passes.
use Rattle.std.proofs.Common.{◌≡◌, ℕ, suc, ◌+◌, ◌≤◌, ◌==◌, Bool, true, false, not, cond, List, [], ◌∷◌, length, map, filter, find, Some, None, refl, sym, ap, ◌∙◌, arith}
use Rattle.std.specs.Prelude.{count_by}
use Rattle.std.specs.Option.{option_map}
use Rattle.std.proofs.lemmas.List.Sums.{sum_by-cons}
use Rattle.std.proofs.lemmas.Bool.{eq-eqb, eqb-true, false_from_ne_true}
use Rattle.std.proofs.lemmas.Bool.Decides.{nat_tests}
use Rattle.index_lists.specs.Lists.{has, without}

-- ---- any test

-- where nothing is found, nothing counts
pub count_by-none : {X : Type 0} (p : X → Bool) (xs : List X) → find p xs ≡ None → count_by p xs ≡ 0
count_by-none p [] e = refl
count_by-none p (x ∷ xs) e = grind (arith, nat_tests, count_by-none p xs)

-- where nothing counts, nothing is taken away
pub filter-none : {X : Type 0} (p : X → Bool) (xs : List X) → count_by p xs ≡ 0 → filter (λ x. not (p x)) xs ≡ xs
filter-none p [] e = refl
filter-none {X} p (x ∷ xs) e = keeps (p x) x _ xs (count_by p xs) (sym (sum_by-cons (λ y. cond (p y) 1 0) x xs) ∙ e) (filter-none p xs)
  where
    keeps : {X : Type 0} (b : Bool) (x : X) (rest xs : List X) (n : ℕ) → cond b 1 0 + n ≡ 0 → (n ≡ 0 → rest ≡ xs) → cond (not b) (x ∷ rest) rest ≡ x ∷ xs
    keeps true x rest xs n e h = absurd (omega (arith, e))
    keeps false x rest xs n e h = ap (λ ys. x ∷ ys) (h (omega (arith, e)))

-- a part of a list has no more
pub count_by-filter : {X : Type 0} (p q : X → Bool) (xs : List X) → count_by p (filter q xs) ≤ count_by p xs
count_by-filter p q [] = omega arith
count_by-filter p q (x ∷ xs) =
    let rest = count_by-filter p q xs in
    let cons = sum_by-cons (λ y. cond (p y) 1 0) x xs in
    let here = sum_by-cons (λ y. cond (p y) 1 0) x (filter q xs) in
    elim (q x) as (λ b. count_by p (cond b (x ∷ filter q xs) (filter q xs)) ≤ count_by p (x ∷ xs)) [ true ↦ omega arith | false ↦ omega arith ]

pub length-filter_le : {X : Type 0} (q : X → Bool) (xs : List X) → length (filter q xs) ≤ length xs
length-filter_le q [] = omega arith
length-filter_le q (x ∷ xs) = grind (arith, nat_tests, length-filter_le q xs)

pub filter_swap : {X : Type 0} (p q : X → Bool) (xs : List X) → filter p (filter q xs) ≡ filter q (filter p xs)
filter_swap p q [] = refl
filter_swap p q (x ∷ xs) = by_tests (p x) (q x) refl refl (filter_swap p q xs)
  where
    by_tests : (b d : Bool) → p x ≡ b → q x ≡ d → filter p (filter q xs) ≡ filter q (filter p xs)
        → filter p (cond d (x ∷ filter q xs) (filter q xs)) ≡ filter q (cond b (x ∷ filter p xs) (filter p xs))
    by_tests true true e f rest = rw (e, f) (ap (λ ys. x ∷ ys) rest)
    by_tests true false e f rest = rw f rest
    by_tests false true e f rest = rw e rest
    by_tests false false e f rest = rest

-- ---- a test behind a map

pub find-map : {X Y : Type 0} (p : Y → Bool) (f : X → Y) (xs : List X) → find p (map f xs) ≡ option_map f (find (λ x. p (f x)) xs)
find-map p f [] = refl
find-map p f (x ∷ xs) = by_test (p (f x)) (find-map p f xs)
  where
    by_test : (b : Bool) → find p (map f xs) ≡ option_map f (find (λ y. p (f y)) xs)
        → cond b (Some (f x)) (find p (map f xs)) ≡ option_map f (cond b (Some x) (find (λ y. p (f y)) xs))
    by_test true rest = refl
    by_test false rest = rest

pub filter-map : {X Y : Type 0} (p : Y → Bool) (f : X → Y) (xs : List X) → filter p (map f xs) ≡ map f (filter (λ x. p (f x)) xs)
filter-map p f [] = refl
filter-map p f (x ∷ xs) = by_test (p (f x)) (filter-map p f xs)
  where
    by_test : (b : Bool) → filter p (map f xs) ≡ map f (filter (λ y. p (f y)) xs)
        → cond b (f x ∷ filter p (map f xs)) (filter p (map f xs)) ≡ map f (cond b (x ∷ filter (λ y. p (f y)) xs) (filter (λ y. p (f y)) xs))
    by_test true rest = ap (λ ys. f x ∷ ys) rest
    by_test false rest = rest

pub count_by-map : {X Y : Type 0} (p : Y → Bool) (f : X → Y) (xs : List X) → count_by p (map f xs) ≡ count_by (λ x. p (f x)) xs
count_by-map p f [] = refl
count_by-map p f (x ∷ xs) =
    sum_by-cons (λ y. cond (p y) 1 0) (f x) (map f xs) ∙ (ap (λ n. cond (p (f x)) 1 0 + n) (count_by-map p f xs) ∙ sym (sum_by-cons (λ y. cond (p (f y)) 1 0) x xs))

-- what passes is in the part of the list that has all that passes
pub find-filter : {X : Type 0} (p q : X → Bool) (xs : List X) → ((x : X) → p x ≡ true → q x ≡ true) → find p (filter q xs) ≡ find p xs
find-filter p q [] all = refl
find-filter p q (x ∷ xs) all = by_tests (p x) (q x) refl refl (find-filter p q xs all)
  where
    by_tests : (b d : Bool) → p x ≡ b → q x ≡ d → find p (filter q xs) ≡ find p xs
        → find p (cond d (x ∷ filter q xs) (filter q xs)) ≡ cond b (Some x) (find p xs)
    by_tests true true e f rest = rw e refl
    by_tests false true e f rest = rw e rest
    by_tests true false e f rest = absurd (let must : q x ≡ true = all x e in cc)
    by_tests false false e f rest = rest

-- ---- a number in a list

abbrev pub count : ℕ → List ℕ → ℕ
count number = count_by (λ other. other == number)

count-cons : (n x : ℕ) (xs : List ℕ) → count n (x ∷ xs) ≡ cond (x == n) 1 0 + count n xs
count-cons n x xs = sum_by-cons (λ z. cond (z == n) 1 0) x xs

pub count_from_has : (n : ℕ) (xs : List ℕ) → has n xs ≡ true → 1 ≤ count n xs
count_from_has n [] e = absurd cc
count_from_has n (x ∷ xs) e = grind (arith, nat_tests, count-cons n x xs, count_from_has n xs)

pub has_from_count : (n : ℕ) (xs : List ℕ) → 1 ≤ count n xs → has n xs ≡ true
has_from_count n [] e = absurd (omega arith)
has_from_count n (x ∷ xs) e = grind (arith, nat_tests, count-cons n x xs, has_from_count n xs)

pub has_none : (n : ℕ) (xs : List ℕ) → count n xs ≡ 0 → has n xs ≡ false
has_none n xs e = false_from_ne_true (has n xs) (λ yes. let some = count_from_has n xs yes in absurd (omega arith))

pub count_without : (n : ℕ) (xs : List ℕ) → count n (without n xs) ≡ 0
count_without n [] = refl
count_without n (x ∷ xs) = by_test (x == n) refl (count_without n xs)
  where
    by_test : (b : Bool) → (x == n) ≡ b → count n (without n xs) ≡ 0 → count n (cond (not b) (x ∷ without n xs) (without n xs)) ≡ 0
    by_test true e none = none
    by_test false e none = let cons = count-cons n x (without n xs) in let counts : cond {A = ℕ} (x == n) 1 0 ≡ 0 = ap (λ b. cond {A = ℕ} b 1 0) e in omega (arith, cons, counts, none)

pub length_without : (n : ℕ) (xs : List ℕ) → length (without n xs) + count n xs ≡ length xs
length_without n [] = refl
length_without n (x ∷ xs) = by_test (x == n) refl (length_without n xs)
  where
    by_test : (b : Bool) → (x == n) ≡ b → length (without n xs) + count n xs ≡ length xs → length (cond (not b) (x ∷ without n xs) (without n xs)) + count n (x ∷ xs) ≡ suc (length xs)
    by_test true e whole = let cons = count-cons n x xs in let counts : cond {A = ℕ} (x == n) 1 0 ≡ 1 = ap (λ b. cond {A = ℕ} b 1 0) e in omega (arith, cons, counts, whole)
    by_test false e whole = let cons = count-cons n x xs in let counts : cond {A = ℕ} (x == n) 1 0 ≡ 0 = ap (λ b. cond {A = ℕ} b 1 0) e in omega (arith, cons, counts, whole)

-- a number that isn't there is none of the items
pub others : (n x : ℕ) (xs : List ℕ) → count n (x ∷ xs) ≡ 0 → ((x ≡ n) → ⊥) × (count n xs ≡ 0)
others n x xs none = (
  λ is. let cons = count-cons n x xs in let counts : cond {A = ℕ} (x == n) 1 0 ≡ 1 = ap (λ b. cond {A = ℕ} b 1 0) (eq-eqb x n is) in absurd (omega (arith, cons, counts, none)),
  let cons = count-cons n x xs in omega (arith, cons, none),
)

pub map_apart : {Y : Type 0} (f g : ℕ → Y) (n : ℕ) (xs : List ℕ) → ((x : ℕ) → (x ≡ n → ⊥) → f x ≡ g x) → count n xs ≡ 0 → map f xs ≡ map g xs
map_apart f g n [] same none = refl
map_apart f g n (x ∷ xs) same none =
    let left = others n x xs none in
    let here : f x ≡ g x = same x left.0 in
    let rest : map f xs ≡ map g xs = map_apart f g n xs same left.1 in
    cc

pub filter_apart : (p q : ℕ → Bool) (n : ℕ) (xs : List ℕ) → ((x : ℕ) → (x ≡ n → ⊥) → p x ≡ q x) → count n xs ≡ 0 → filter p xs ≡ filter q xs
filter_apart p q n [] same none = refl
filter_apart p q n (x ∷ xs) same none =
    let left = others n x xs none in
    let here : p x ≡ q x = same x left.0 in
    let rest : filter p xs ≡ filter q xs = filter_apart p q n xs same left.1 in
    rw (here, rest) refl

-- where a number passes, what passes is no less often there than the number
pub count_most : (p : ℕ → Bool) (n : ℕ) → p n ≡ true → (xs : List ℕ) → count n xs ≤ count_by p xs
count_most p n passes [] = omega arith
count_most p n passes (x ∷ xs) = by_tests (x == n) (p x) refl refl (count_most p n passes xs)
  where
    by_tests : (b d : Bool) → (x == n) ≡ b → p x ≡ d → count n xs ≤ count_by p xs → count n (x ∷ xs) ≤ count_by p (x ∷ xs)
    by_tests true false e f rest = absurd (let is : x ≡ n = eqb-true x n e in let must : p x ≡ true = rw is passes in cc)
    by_tests true true e f rest =
        let left = count-cons n x xs in
        let right = sum_by-cons (λ z. cond (p z) 1 0) x xs in
        let l : cond {A = ℕ} (x == n) 1 0 ≡ 1 = ap (λ b. cond {A = ℕ} b 1 0) e in
        let r : cond {A = ℕ} (p x) 1 0 ≡ 1 = ap (λ b. cond {A = ℕ} b 1 0) f in
        omega (arith, rest, left, right, l, r)
    by_tests false d e f rest =
        let left = count-cons n x xs in
        let right = sum_by-cons (λ z. cond (p z) 1 0) x xs in
        let l : cond {A = ℕ} (x == n) 1 0 ≡ 0 = ap (λ b. cond {A = ℕ} b 1 0) e in
        omega (arith, rest, left, right, l)

-- a test that one number alone passes takes out what that number takes out
pub only : (p : ℕ → Bool) (n : ℕ) (xs : List ℕ) → count_by p xs ≤ 1 → 1 ≤ count n xs → p n ≡ true → without n xs ≡ filter (λ x. not (p x)) xs
only p n [] once there passes = absurd (omega arith)
only p n (x ∷ xs) once there passes = by_tests (x == n) (p x) refl refl (only p n xs) (count_most p n passes xs)
  where
    by_tests : (b d : Bool) → (x == n) ≡ b → p x ≡ d
        → (count_by p xs ≤ 1 → 1 ≤ count n xs → p n ≡ true → without n xs ≡ filter (λ y. not (p y)) xs) → count n xs ≤ count_by p xs
        → cond (not b) (x ∷ without n xs) (without n xs) ≡ cond (not d) (x ∷ filter (λ y. not (p y)) xs) (filter (λ y. not (p y)) xs)
    by_tests true false e f rest few = absurd (let is : x ≡ n = eqb-true x n e in let must : p x ≡ true = rw is passes in cc)
    by_tests true true e f rest few =
        let cons = sum_by-cons (λ z. cond (p z) 1 0) x xs in
        let r : cond {A = ℕ} (p x) 1 0 ≡ 1 = ap (λ b. cond {A = ℕ} b 1 0) f in
        let none : count_by p xs ≡ 0 = omega (arith, cons, r, once) in
        let none_n : count n xs ≡ 0 = omega (arith, none, few) in
        filter-none (λ y. y == n) xs none_n ∙ sym (filter-none p xs none)
    by_tests false true e f rest few =
        let cons = sum_by-cons (λ z. cond (p z) 1 0) x xs in
        let r : cond {A = ℕ} (p x) 1 0 ≡ 1 = ap (λ b. cond {A = ℕ} b 1 0) f in
        let left = count-cons n x xs in
        let l : cond {A = ℕ} (x == n) 1 0 ≡ 0 = ap (λ b. cond {A = ℕ} b 1 0) e in
        absurd (omega (arith, cons, r, once, left, l, few, there))
    by_tests false false e f rest few =
        let cons = sum_by-cons (λ z. cond (p z) 1 0) x xs in
        let r : cond {A = ℕ} (p x) 1 0 ≡ 0 = ap (λ b. cond {A = ℕ} b 1 0) f in
        let left = count-cons n x xs in
        let l : cond {A = ℕ} (x == n) 1 0 ≡ 0 = ap (λ b. cond {A = ℕ} b 1 0) e in
        ap (λ ys. x ∷ ys) (rest (omega (arith, cons, r, once)) (omega (arith, left, l, there)) passes)
