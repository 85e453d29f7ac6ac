-- What is found in a list, and what is read of it after one item is written over.
use Rattle.std.proofs.Common.{Bool, List, None, Option, Some, [], ap, arith, cond, false, find, inl, inr, is_some, length, not, refl, slice_get, slice_set, subst, suc, true, zero, ℕ, ◌&&◌, ◌||◌, ◌∷◌, ◌≡◌, ◌≤◌, ◌++◌, map}
use Rattle.std.proofs.lemmas.Bool.{or_cases, or_left, or_right}
use Rattle.std.specs.List.{AllByRecursion, list_any}

-- what is read of a list with one item written over
pub slice_set_same : {A : Type 0} (xs : List A) (i : ℕ) (x v : A) → slice_get xs i ≡ Some x → slice_get (slice_set xs i v) i ≡ Some v
slice_set_same [] i x v e = absurd cc
slice_set_same (y ∷ ys) zero x v e = refl
slice_set_same (y ∷ ys) (suc i) x v e = slice_set_same ys i x v e

pub slice_set_other : {A : Type 0} (xs : List A) (i j : ℕ) (v : A) → (j ≡ i → ⊥) → slice_get (slice_set xs i v) j ≡ slice_get xs j
slice_set_other [] i j v ne = refl
slice_set_other (y ∷ ys) zero zero v ne = absurd (ne refl)
slice_set_other (y ∷ ys) zero (suc j) v ne = refl
slice_set_other (y ∷ ys) (suc i) zero v ne = refl
slice_set_other (y ∷ ys) (suc i) (suc j) v ne = slice_set_other ys i j v (λ e. ne (ap suc e))

pub slice_set_length : {A : Type 0} (xs : List A) (i : ℕ) (v : A) → length (slice_set xs i v) ≡ length xs
slice_set_length [] i v = refl
slice_set_length (y ∷ ys) zero v = refl
slice_set_length (y ∷ ys) (suc i) v = ap suc (slice_set_length ys i v)

-- what is found passes
pub find_passes : {A : Type 0} (test : A → Bool) (xs : List A) (x : A) → find test xs ≡ Some x → test x ≡ true
find_passes test [] x e = absurd cc
find_passes {A} test (y ∷ ys) x e = go (test y) refl (λ f. find_passes test ys x f) e
  where
    go : (b : Bool) → test y ≡ b → (find test ys ≡ Some x → test x ≡ true) → cond b (Some y) (find test ys) ≡ Some x → test x ≡ true
    go true is rest f = let same : y ≡ x = cc in rw (← same) is
    go false is rest f = rest f

pub found_any : {A : Type 0} (test p : A → Bool) (xs : List A) (x : A) → find test xs ≡ Some x → p x ≡ true → list_any p xs ≡ true
found_any test p [] x e is = absurd cc
found_any {A} test p (y ∷ ys) x e is = go (test y) (λ f. found_any test p ys x f is) e
  where
    go : (b : Bool) → (find test ys ≡ Some x → list_any p ys ≡ true) → cond b (Some y) (find test ys) ≡ Some x → (p y || list_any p ys) ≡ true
    go true rest f = let same : y ≡ x = cc in or_left (p y) (list_any p ys) (rw same is)
    go false rest f = or_right (p y) (list_any p ys) (rest f)

pub any_none : {A : Type 0} (p : A → Bool) (xs : List A) → ((x : A) → p x ≡ true → ⊥) → list_any p xs ≡ true → ⊥
any_none p [] f e = cc
any_none p (x ∷ xs) f e = elim (or_cases (p x) (list_any p xs) e) [ inl here ↦ f x here | inr there ↦ any_none p xs f there ]

-- where none passes, what stands in the list does not
pub none_passes : {A : Type 0} (test p : A → Bool) (xs : List A) → find test xs ≡ None → list_any p xs ≡ true → list_any (λ x. not (test x) && p x) xs ≡ true
none_passes test p [] e f = f
none_passes {A} test p (y ∷ ys) e f = go (test y) refl e (λ g h. none_passes test p ys g h)
  where
    go : (b : Bool) → test y ≡ b → cond b (Some y) (find test ys) ≡ None → (find test ys ≡ None → list_any p ys ≡ true → list_any (λ x. not (test x) && p x) ys ≡ true) → ((not (test y) && p y) || list_any (λ x. not (test x) && p x) ys) ≡ true
    go true is g ih = absurd cc
    go false is g ih = elim (or_cases (p y) (list_any p ys) f) [
      | inl here ↦ or_left (not (test y) && p y) (list_any (λ x. not (test x) && p x) ys) (rw is here)
      | inr there ↦ or_right (not (test y) && p y) (list_any (λ x. not (test x) && p x) ys) (ih g there)
    ]

pub none_found : {A : Type 0} (test other : A → Bool) (xs : List A) (x : A) → find test xs ≡ None → find other xs ≡ Some x → test x ≡ false
none_found test other [] x e f = absurd cc
none_found {A} test other (y ∷ ys) x e f = go (test y) (other y) refl e f (λ g h. none_found test other ys x g h)
  where
    go : (b c : Bool) → test y ≡ b → cond b (Some y) (find test ys) ≡ None → cond c (Some y) (find other ys) ≡ Some x → (find test ys ≡ None → find other ys ≡ Some x → test x ≡ false) → test x ≡ false
    go true c is g h ih = absurd cc
    go false true is g h ih = let same : y ≡ x = cc in rw (← same) is
    go false false is g h ih = ih g h

pub all_found : {A : Type 0} (P : A → Type 0) (test : A → Bool) (xs : List A) (x : A) → find test xs ≡ Some x → AllByRecursion P xs → P x
all_found P test [] x e a = absurd cc
all_found {A} P test (y ∷ ys) x e a = go (test y) (λ f. all_found P test ys x f a.1) e
  where
    go : (b : Bool) → (find test ys ≡ Some x → P x) → cond b (Some y) (find test ys) ≡ Some x → P x
    go true rest f = let yx : y ≡ x = cc in subst P yx a.0
    go false rest f = rest f

pub some_found : {A : Type 0} (p : A → Bool) (xs : List A) → is_some (find p xs) ≡ list_any p xs
some_found p [] = refl
some_found {A} p (x ∷ xs) = go (p x) (some_found p xs)
  where
    go : (b : Bool) → is_some (find p xs) ≡ list_any p xs → is_some (cond b (Some x) (find p xs)) ≡ (b || list_any p xs)
    go true rest = refl
    go false rest = rest

-- ---- items by their place

pub some_is : {A : Type 0} {a b : A} → Some a ≡ Some b → a ≡ b
some_is {A} {a} {b} e = ap (from a) e
  where
    from : A → Option A → A
    from d None = d
    from d (Some v) = v

pub past : {A : Type 0} (xs : List A) (q : ℕ) → slice_get xs q ≡ None → length xs ≤ q
past [] q f = omega arith
past (z ∷ xs) zero f = absurd (cc)
past (z ∷ xs) (suc q) f = omega (arith, past xs q f)

pub at_seam : {A : Type 0} (xs ys : List A) (x : A) → slice_get (xs ++ x ∷ ys) (length xs) ≡ Some x
at_seam [] ys x = refl
at_seam (z ∷ xs) ys x = at_seam xs ys x

-- ---- items that are mapped

pub any_map : {A B : Type 0} (test : B → Bool) (f : A → B) (xs : List A) → list_any test (map f xs) ≡ list_any (λ x. test (f x)) xs
any_map test f [] = refl
any_map test f (x ∷ xs) = ap (λ b. test (f x) || b) (any_map test f xs)
