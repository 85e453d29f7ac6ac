-- How many items pass a test, when one item changes.
use Rattle.std.proofs.Common.{◌≡◌, ℕ, zero, suc, ◌+◌, ◌<◌, ◌≤◌, Bool, true, false, not, cond, ◌||◌, List, [], ◌∷◌, ◌++◌, length, filter, refl, ap, arith}
use Rattle.std.specs.Prelude.{count_by, slice_index_or, slice_set}
use Rattle.std.specs.List.{list_any}
use Rattle.std.proofs.lemmas.List.Sums.{sum_by-append, sum_by-cons, sum_by-set, count_by-le-length}
use Rattle.std.proofs.lemmas.Bool.Decides.{nat_tests}

-- one for an item that passes
abbrev pub one : Bool → ℕ
one b = cond b 1 0

pub one-le : (b : Bool) → one b ≤ 1
one-le true = omega arith
one-le false = omega arith

pub count_by-cons : {X : Type 0} (p : X → Bool) (x : X) (xs : List X) → count_by p (x ∷ xs) ≡ one (p x) + count_by p xs
count_by-cons p x xs = sum_by-cons (λ z. one (p z)) x xs

pub count_by-set : {X : Type 0} (p : X → Bool) (xs : List X) (i : ℕ) (d x y : X) → i < length xs → slice_index_or xs i d ≡ x → count_by p (slice_set xs i y) + one (p x) ≡ count_by p xs + one (p y)
count_by-set p xs i d x y within here = rw here at (sum_by-set (λ z. one (p z)) xs i y d within)

pub count_by-push : {X : Type 0} (p : X → Bool) (xs : List X) (x : X) → count_by p (xs ++ x ∷ []) ≡ count_by p xs + one (p x)
count_by-push p xs x = let whole : count_by p (xs ++ x ∷ []) ≡ count_by p xs + count_by p (x ∷ []) = sum_by-append (λ z. one (p z)) xs (x ∷ []) in let last : count_by p (x ∷ []) ≡ one (p x) + 0 = count_by-cons p x [] in omega arith

-- an item that passes counts
pub count_by-has : {X : Type 0} (p : X → Bool) (xs : List X) (i : ℕ) (d : X) → i < length xs → p (slice_index_or xs i d) ≡ true → 1 ≤ count_by p xs
count_by-has p [] i d within passes = absurd (omega arith)
count_by-has p (y ∷ ys) zero d within passes = let cons = count_by-cons p y ys in let counts : one (p y) ≡ 1 = ap one passes in omega arith
count_by-has p (y ∷ ys) (suc i) d within passes = let cons = count_by-cons p y ys in let rest = count_by-has p ys i d (omega arith) passes in omega arith

-- an item that doesn't pass leaves fewer than all
pub count_by-misses : {X : Type 0} (p : X → Bool) (xs : List X) (i : ℕ) (d : X) → i < length xs → p (slice_index_or xs i d) ≡ false → count_by p xs < length xs
count_by-misses p [] i d within fails = absurd (omega arith)
count_by-misses p (y ∷ ys) zero d within fails = let cons = count_by-cons p y ys in let counts : one (p y) ≡ 0 = ap one fails in let rest = count_by-le-length p ys in omega arith
count_by-misses p (y ∷ ys) (suc i) d within fails = let cons = count_by-cons p y ys in let rest = count_by-misses p ys i d (omega arith) fails in let first = one-le (p y) in omega arith

-- where none passes, none counts
pub count_by-none : {X : Type 0} (p : X → Bool) (xs : List X) → list_any p xs ≡ false → count_by p xs ≡ 0
count_by-none p [] none = refl
count_by-none p (x ∷ xs) none = grind (arith, nat_tests, count_by-cons p x xs, count_by-none p xs)

-- of a list without the items that pass, none passes
pub count_by-without : {X : Type 0} (p : X → Bool) (xs : List X) → count_by p (filter (λ x. not (p x)) xs) ≡ 0
count_by-without p [] = refl
count_by-without p (x ∷ xs) = by_test (p x) refl _ (count_by-without p xs)
  where
    by_test : (b : Bool) → p x ≡ b → (rest : List _) → count_by p rest ≡ 0 → count_by p (cond (not b) (x ∷ rest) rest) ≡ 0
    by_test true e rest none = none
    by_test false e rest none = let cons = count_by-cons p x rest in let counts : one (p x) ≡ 0 = ap one e in omega arith

-- and a test that none of them passes counts as before
pub count_by-keeps : {X : Type 0} (p q : X → Bool) (xs : List X) → ((x : X) → p x ≡ true → q x ≡ false) → count_by q (filter (λ x. not (p x)) xs) ≡ count_by q xs
count_by-keeps p q [] apart = refl
count_by-keeps p q (x ∷ xs) apart = by_test (p x) refl _ (count_by-keeps p q xs apart)
  where
    by_test : (b : Bool) → p x ≡ b → (rest : List _) → count_by q rest ≡ count_by q xs → count_by q (cond (not b) (x ∷ rest) rest) ≡ count_by q (x ∷ xs)
    by_test true e rest same = let cons = count_by-cons q x xs in let counts : one (q x) ≡ 0 = ap one (apart x e) in omega arith
    by_test false e rest same = let cons = count_by-cons q x rest in let all = count_by-cons q x xs in omega arith

pub length-without : {X : Type 0} (p : X → Bool) (xs : List X) → length (filter (λ x. not (p x)) xs) + count_by p xs ≡ length xs
length-without p [] = refl
length-without p (x ∷ xs) = by_test (p x) refl _ (length-without p xs)
  where
    by_test : (b : Bool) → p x ≡ b → (rest : List _) → length rest + count_by p xs ≡ length xs → length (cond (not b) (x ∷ rest) rest) + count_by p (x ∷ xs) ≡ suc (length xs)
    by_test true e rest whole = let cons = count_by-cons p x xs in let counts : one (p x) ≡ 1 = ap one e in omega arith
    by_test false e rest whole = let cons = count_by-cons p x xs in let counts : one (p x) ≡ 0 = ap one e in omega arith

-- two items that pass count as two
pub count_by-two : {X : Type 0} (p : X → Bool) (xs : List X) (i j : ℕ) (d : X) → i < j → j < length xs → p (slice_index_or xs i d) ≡ true → p (slice_index_or xs j d) ≡ true → 2 ≤ count_by p xs
count_by-two p [] i j d apart within first second = absurd (omega arith)
count_by-two p (x ∷ xs) zero zero d apart within first second = absurd (omega arith)
count_by-two p (x ∷ xs) zero (suc j) d apart within first second = let cons = count_by-cons p x xs in let counts : one (p x) ≡ 1 = ap one first in let rest = count_by-has p xs j d (omega arith) second in omega arith
count_by-two p (x ∷ xs) (suc i) zero d apart within first second = absurd (omega arith)
count_by-two p (x ∷ xs) (suc i) (suc j) d apart within first second = let cons = count_by-cons p x xs in let rest = count_by-two p xs i j d (omega arith) (omega arith) first second in omega arith

-- whether one passes, by the count
pub list_any-none : {X : Type 0} (p : X → Bool) (xs : List X) → count_by p xs ≡ 0 → list_any p xs ≡ false
list_any-none p [] none = refl
list_any-none p (x ∷ xs) none = by_test (p x) refl (list_any-none p xs)
  where
    by_test : (b : Bool) → p x ≡ b → (count_by p xs ≡ 0 → list_any p xs ≡ false) → (b || list_any p xs) ≡ false
    by_test true e rest = let cons = count_by-cons p x xs in let counts : one (p x) ≡ 1 = ap one e in absurd (omega arith)
    by_test false e rest = let cons = count_by-cons p x xs in rest (omega arith)

pub list_any-some : {X : Type 0} (p : X → Bool) (xs : List X) → 1 ≤ count_by p xs → list_any p xs ≡ true
list_any-some p [] some = absurd (omega arith)
list_any-some p (x ∷ xs) some = by_test (p x) refl (list_any-some p xs)
  where
    by_test : (b : Bool) → p x ≡ b → (1 ≤ count_by p xs → list_any p xs ≡ true) → (b || list_any p xs) ≡ true
    by_test true e rest = refl
    by_test false e rest = let cons = count_by-cons p x xs in let counts : one (p x) ≡ 0 = ap one e in rest (omega arith)

pub count_by-without_le : {X : Type 0} (p q : X → Bool) (xs : List X) → count_by q (filter (λ x. not (p x)) xs) ≤ count_by q xs
count_by-without_le p q [] = omega arith
count_by-without_le p q (x ∷ xs) = by_test (p x) (count_by-without_le p q xs)
  where
    by_test : (b : Bool) → count_by q (filter (λ y. not (p y)) xs) ≤ count_by q xs → count_by q (cond (not b) (x ∷ filter (λ y. not (p y)) xs) (filter (λ y. not (p y)) xs)) ≤ count_by q (x ∷ xs)
    by_test true rest = let cons = count_by-cons q x xs in omega arith
    by_test false rest = let cons = count_by-cons q x xs in let kept = count_by-cons q x (filter (λ y. not (p y)) xs) in omega arith
