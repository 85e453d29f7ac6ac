-- How often a number stands in lists.
use Rattle.std.proofs.Common.{◌≡◌, ℕ, suc, ◌+◌, ◌<◌, ◌≤◌, Bool, true, false, not, cond, ◌==◌, ◌||◌, List, [], ◌∷◌, ◌++◌, length, refl, ap, arith}
use Rattle.std.specs.Prelude.{count_by, slice_index_or, map}
use Rattle.std.specs.List.{list_any}
use Rattle.std.proofs.lemmas.List.Sums.{sum_by-append, sum_by-cons, get_or-le-sum_by}
use Rattle.std.proofs.lemmas.Bool.Decides.{nat_tests}
use Rattle.std.proofs.lemmas.Bool.{eq-eqb}
use Rattle.index_lists.specs.Lists.{has, put_behind, times, without}

-- one for an item that passes
abbrev pub one : Bool → ℕ
one b = cond b 1 0

-- how often a number is in a list
abbrev pub count : ℕ → List ℕ → ℕ
count number = count_by (λ other. other == number)

pub count-cons : (n x : ℕ) (xs : List ℕ) → count n (x ∷ xs) ≡ one (x == n) + count n xs
count-cons n x xs = sum_by-cons (λ z. one (z == n)) x xs

pub count-push : (n : ℕ) (xs : List ℕ) (x : ℕ) → count n (xs ++ x ∷ []) ≡ count n xs + one (x == n)
count-push n xs x = let whole : count n (xs ++ x ∷ []) ≡ count n xs + count n (x ∷ []) = sum_by-append (λ z. one (z == n)) xs (x ∷ []) in let last : count n (x ∷ []) ≡ one (x == n) + 0 = count-cons n x [] in omega arith

pub count-without-le : (n m : ℕ) (xs : List ℕ) → count n (without m xs) ≤ count n xs
count-without-le n m [] = omega arith
count-without-le n m (x ∷ xs) = by_test (x == m) (count-without-le n m xs)
  where
    by_test : (b : Bool) → count n (without m xs) ≤ count n xs → count n (cond (not b) (x ∷ without m xs) (without m xs)) ≤ count n (x ∷ xs)
    by_test true rest = let cons = count-cons n x xs in omega arith
    by_test false rest = let cons = count-cons n x xs in let cons' = count-cons n x (without m xs) in omega arith

pub length-without : (n : ℕ) (xs : List ℕ) → length (without n xs) + count n xs ≡ length xs
length-without n [] = refl
length-without n (x ∷ xs) = by_test (x == n) refl (length-without n xs)
  where
    by_test : (b : Bool) → (x == n) ≡ b → length (without n xs) + count n xs ≡ length xs → length (cond (not b) (x ∷ without n xs) (without n xs)) + count n (x ∷ xs) ≡ suc (length xs)
    by_test true e whole = let cons = count-cons n x xs in let counts : one (x == n) ≡ 1 = ap one e in omega arith
    by_test false e whole = let cons = count-cons n x xs in let counts : one (x == n) ≡ 0 = ap one e in omega arith

pub without-none : (n : ℕ) (xs : List ℕ) → count n xs ≡ 0 → without n xs ≡ xs
without-none n [] none = refl
without-none n (x ∷ xs) none = by_test (x == n) refl (without-none n xs)
  where
    by_test : (b : Bool) → (x == n) ≡ b → (count n xs ≡ 0 → without n xs ≡ xs) → cond (not b) (x ∷ without n xs) (without n xs) ≡ x ∷ xs
    by_test true e rest = let cons = count-cons n x xs in let counts : one (x == n) ≡ 1 = ap one e in absurd (omega arith)
    by_test false e rest = let cons = count-cons n x xs in ap (λ (ys : List ℕ). x ∷ ys) (rest (omega arith))

pub count-none : (n : ℕ) (xs : List ℕ) → has n xs ≡ false → count n xs ≡ 0
count-none n [] none = refl
count-none n (x ∷ xs) none = grind (arith, nat_tests, count-cons n x xs, count-none n xs)

pub times-cons : (n : ℕ) (xs : List ℕ) (lists : List (List ℕ)) → times n (xs ∷ lists) ≡ count n xs + times n lists
times-cons n xs lists = sum_by-cons (count n) xs lists

-- a number that stands nowhere
pub times-none : (n : ℕ) (lists : List (List ℕ)) → list_any (has n) lists ≡ false → times n lists ≡ 0
times-none n [] none = refl
times-none n (xs ∷ lists) none = by_test (has n xs) refl none (times-none n lists)
  where
    by_test : (b : Bool) → has n xs ≡ b → (b || list_any (has n) lists) ≡ false → (list_any (has n) lists ≡ false → times n lists ≡ 0) → times n (xs ∷ lists) ≡ 0
    by_test true e fails rest = cc
    by_test false e fails rest = let cons = times-cons n xs lists in let here = count-none n xs e in let others = rest fails in omega arith

pub count-le-times : (n : ℕ) (lists : List (List ℕ)) (list : ℕ) → list < length lists → count n (slice_index_or lists list []) ≤ times n lists
count-le-times n lists list within = get_or-le-sum_by (count n) lists list [] within

pub times-without-le : (n m : ℕ) (lists : List (List ℕ)) → times n (map (without m) lists) ≤ times n lists
times-without-le n m [] = omega arith
times-without-le n m (xs ∷ lists) =
    let rest = times-without-le n m lists in
    let here = count-without-le n m xs in
    let left = times-cons n (without m xs) (map (without m) lists) in
    let right = times-cons n xs lists in
    omega arith

pub one-same : (n : ℕ) → one (n == n) ≡ 1
one-same n = ap one (eq-eqb n n refl)

-- ---- a number put behind another

count-put_behind_same : (p n : ℕ) (xs : List ℕ) → count n (put_behind p n xs) ≤ count n xs + count p xs
count-put_behind_same p n [] = omega arith
count-put_behind_same p n (x ∷ xs) = by_test (x == p) refl (count-put_behind_same p n xs)
  where
    by_test : (t : Bool) → (x == p) ≡ t → count n (put_behind p n xs) ≤ count n xs + count p xs → count n (cond t (x ∷ n ∷ xs) (x ∷ put_behind p n xs)) ≤ count n (x ∷ xs) + count p (x ∷ xs)
    by_test true e rest =
        let counts : one (x == p) ≡ 1 = ap one e in
        let own = count-cons p x xs in
        let before = count-cons n x xs in
        let first = count-cons n x (n ∷ xs) in
        let second = count-cons n n xs in
        let self = one-same n in
        omega arith
    by_test false e rest =
        let own = count-cons p x xs in
        let before = count-cons n x xs in
        let after = count-cons n x (put_behind p n xs) in
        omega arith

count-put_behind_other : (p n m : ℕ) (xs : List ℕ) → (n == m) ≡ false → count m (put_behind p n xs) ≡ count m xs
count-put_behind_other p n m [] differs = refl
count-put_behind_other p n m (x ∷ xs) differs = by_test (x == p) (count-put_behind_other p n m xs differs)
  where
    by_test : (t : Bool) → count m (put_behind p n xs) ≡ count m xs → count m (cond t (x ∷ n ∷ xs) (x ∷ put_behind p n xs)) ≡ count m (x ∷ xs)
    by_test true rest =
        let before = count-cons m x xs in
        let first = count-cons m x (n ∷ xs) in
        let second = count-cons m n xs in
        let none : one (n == m) ≡ 0 = ap one differs in
        omega arith
    by_test false rest = let before = count-cons m x xs in let after = count-cons m x (put_behind p n xs) in omega arith

pub times-put_behind_same : (p n : ℕ) (lists : List (List ℕ)) → times n (map (put_behind p n) lists) ≤ times n lists + times p lists
times-put_behind_same p n [] = omega arith
times-put_behind_same p n (xs ∷ lists) =
    let rest = times-put_behind_same p n lists in
    let here = count-put_behind_same p n xs in
    let left = times-cons n (put_behind p n xs) (map (put_behind p n) lists) in
    let right = times-cons n xs lists in
    let own = times-cons p xs lists in
    omega arith

pub times-put_behind_other : (p n m : ℕ) (lists : List (List ℕ)) → (n == m) ≡ false → times m (map (put_behind p n) lists) ≡ times m lists
times-put_behind_other p n m [] differs = refl
times-put_behind_other p n m (xs ∷ lists) differs =
    let rest = times-put_behind_other p n m lists differs in
    let here = count-put_behind_other p n m xs differs in
    let left = times-cons m (put_behind p n xs) (map (put_behind p n) lists) in
    let right = times-cons m xs lists in
    omega arith
