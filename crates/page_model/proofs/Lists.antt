-- Tests of the members of a list.
use Rattle.std.proofs.Common.{Bool, List, None, Some, [], cond, false, filter, find, inl, inr, not, refl, true, ◌&&◌, ◌++◌, ◌||◌, ◌∷◌, ◌≡◌, ◌⊎◌}
use Rattle.std.proofs.lemmas.Bool.{and_from, or_cases, or_left, or_right}
use Rattle.std.specs.List.{list_any}

pub any_grows : {A : Type 0} (p q : A → Bool) (xs : List A) → ((x : A) → p x ≡ true → q x ≡ true) → list_any p xs ≡ true → list_any q xs ≡ true
any_grows p q [] f e = e
any_grows p q (x ∷ xs) f e = elim (or_cases (p x) (list_any p xs) e) [
  | inl here ↦ or_left (q x) (list_any q xs) (f x here)
  | inr there ↦ or_right (q x) (list_any q xs) (any_grows p q xs f there)
]

pub any_none : {A : Type 0} (p : A → Bool) (xs : List A) → ((x : A) → p x ≡ true → ⊥) → list_any p xs ≡ true → ⊥
any_none p [] f e = cc
any_none p (x ∷ xs) f e = elim (or_cases (p x) (list_any p xs) e) [ inl here ↦ f x here | inr there ↦ any_none p xs f there ]

pub any_last : {A : Type 0} (p : A → Bool) (xs : List A) (y : A) → list_any p (xs ++ y ∷ []) ≡ true → (list_any p xs ≡ true) ⊎ (p y ≡ true)
any_last p [] y e = elim (or_cases (p y) false e) [ inl here ↦ inr here | inr none ↦ absurd cc ]
any_last p (x ∷ xs) y e = elim (or_cases (p x) (list_any p (xs ++ y ∷ [])) e) [
  | inl here ↦ inl (or_left (p x) (list_any p xs) here)
  | inr there ↦ elim (any_last p xs y there) [ inl a ↦ inl (or_right (p x) (list_any p xs) a) | inr b ↦ inr b ]
]

pub last_any : {A : Type 0} (p : A → Bool) (xs : List A) (y : A) → (list_any p xs ≡ true) ⊎ (p y ≡ true) → list_any p (xs ++ y ∷ []) ≡ true
last_any p [] y e = elim e [ inl none ↦ absurd cc | inr here ↦ or_left (p y) false here ]
last_any p (x ∷ xs) y e = elim e [
  | inl there ↦ elim (or_cases (p x) (list_any p xs) there) [
    | inl a ↦ or_left (p x) (list_any p (xs ++ y ∷ [])) a
    | inr b ↦ or_right (p x) (list_any p (xs ++ y ∷ [])) (last_any p xs y (inl b))
  ]
  | inr here ↦ or_right (p x) (list_any p (xs ++ y ∷ [])) (last_any p xs y (inr here))
]

-- what is left passed, and what passes is left
pub any_filter : {A : Type 0} (r p : A → Bool) (xs : List A) → list_any p (filter r xs) ≡ true → list_any (λ x. r x && p x) xs ≡ true
any_filter r p [] e = e
any_filter {A} r p (x ∷ xs) e = go (r x) refl e (λ f. any_filter r p xs f)
  where
    go : (b : Bool) → r x ≡ b → list_any p (cond b (x ∷ filter r xs) (filter r xs)) ≡ true → (list_any p (filter r xs) ≡ true → list_any (λ y. r y && p y) xs ≡ true) → ((r x && p x) || list_any (λ y. r y && p y) xs) ≡ true
    go true is f ih = elim (or_cases (p x) (list_any p (filter r xs)) f) [
      | inl here ↦ or_left (r x && p x) (list_any (λ y. r y && p y) xs) (and_from (r x) (p x) is here)
      | inr there ↦ or_right (r x && p x) (list_any (λ y. r y && p y) xs) (ih there)
    ]
    go false is f ih = or_right (r x && p x) (list_any (λ y. r y && p y) xs) (ih f)

pub filter_any : {A : Type 0} (r p : A → Bool) (xs : List A) → list_any (λ x. r x && p x) xs ≡ true → list_any p (filter r xs) ≡ true
filter_any r p [] e = e
filter_any {A} r p (x ∷ xs) e = go (r x) refl e (λ f. filter_any r p xs f)
  where
    go : (b : Bool) → r x ≡ b → ((b && p x) || list_any (λ y. r y && p y) xs) ≡ true → (list_any (λ y. r y && p y) xs ≡ true → list_any p (filter r xs) ≡ true) → list_any p (cond b (x ∷ filter r xs) (filter r xs)) ≡ true
    go true is f ih = elim (or_cases (p x) (list_any (λ y. r y && p y) xs) f) [
      | inl here ↦ or_left (p x) (list_any p (filter r xs)) here
      | inr there ↦ or_right (p x) (list_any p (filter r xs)) (ih there)
    ]
    go false is f ih = ih f

-- what was found passes, and stands in the list
pub find_passes : {A : Type 0} (test : A → Bool) (xs : List A) (x : A) → find test xs ≡ Some x → test x ≡ true
find_passes test [] x e = absurd cc
find_passes {A} test (y ∷ ys) x e = go (test y) refl (λ f. find_passes test ys x f) e
  where
    go : (b : Bool) → test y ≡ b → (find test ys ≡ Some x → test x ≡ true) → cond b (Some y) (find test ys) ≡ Some x → test x ≡ true
    go true is rest f = let same : y ≡ x = cc in rw (← same) is
    go false is rest f = rest f

pub found_any : {A : Type 0} (test p : A → Bool) (xs : List A) (x : A) → find test xs ≡ Some x → p x ≡ true → list_any p xs ≡ true
found_any test p [] x e is = absurd cc
found_any {A} test p (y ∷ ys) x e is = go (test y) (λ f. found_any test p ys x f is) e
  where
    go : (b : Bool) → (find test ys ≡ Some x → list_any p ys ≡ true) → cond b (Some y) (find test ys) ≡ Some x → (p y || list_any p ys) ≡ true
    go true rest f = let same : y ≡ x = cc in or_left (p y) (list_any p ys) (rw same is)
    go false rest f = or_right (p y) (list_any p ys) (rest f)

-- where none passes, what stands in the list does not
pub none_passes : {A : Type 0} (test p : A → Bool) (xs : List A) → find test xs ≡ None → list_any p xs ≡ true → list_any (λ x. not (test x) && p x) xs ≡ true
none_passes test p [] e f = f
none_passes {A} test p (y ∷ ys) e f = go (test y) refl e (λ g h. none_passes test p ys g h)
  where
    go : (b : Bool) → test y ≡ b → cond b (Some y) (find test ys) ≡ None → (find test ys ≡ None → list_any p ys ≡ true → list_any (λ x. not (test x) && p x) ys ≡ true) → ((not (test y) && p y) || list_any (λ x. not (test x) && p x) ys) ≡ true
    go true is g ih = absurd cc
    go false is g ih = elim (or_cases (p y) (list_any p ys) f) [
      | inl here ↦ or_left (not (test y) && p y) (list_any (λ x. not (test x) && p x) ys) (rw is here)
      | inr there ↦ or_right (not (test y) && p y) (list_any (λ x. not (test x) && p x) ys) (ih g there)
    ]

pub none_found : {A : Type 0} (test other : A → Bool) (xs : List A) (x : A) → find test xs ≡ None → find other xs ≡ Some x → test x ≡ false
none_found test other [] x e f = absurd cc
none_found {A} test other (y ∷ ys) x e f = go (test y) (other y) refl e f (λ g h. none_found test other ys x g h)
  where
    go : (b c : Bool) → test y ≡ b → cond b (Some y) (find test ys) ≡ None → cond c (Some y) (find other ys) ≡ Some x → (find test ys ≡ None → find other ys ≡ Some x → test x ≡ false) → test x ≡ false
    go true c is g h ih = absurd cc
    go false true is g h ih = let same : y ≡ x = cc in rw (← same) is
    go false false is g h ih = ih g h
