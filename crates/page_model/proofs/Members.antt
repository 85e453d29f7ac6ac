-- What holds of each member of a list, and what is found in it.
use Rattle.std.proofs.Common.{Bool, List, None, Option, Some, [], ap, cond, false, filter, find, is_some, map, refl, subst, true, ◌++◌, ◌||◌, ◌∷◌, ◌≡◌}
use Rattle.std.specs.List.{AllByRecursion, list_any}

module _ {A : Type 0} where
  pub all_weaker : (P Q : A → Type 0) (xs : List A) → ((x : A) → P x → Q x) → AllByRecursion P xs → AllByRecursion Q xs
  all_weaker P Q [] f a = tt
  all_weaker P Q (x ∷ xs) f a = (f x a.0, all_weaker P Q xs f a.1)

  pub all_both : (P Q R : A → Type 0) (xs : List A) → ((x : A) → P x → Q x → R x) → AllByRecursion P xs → AllByRecursion Q xs → AllByRecursion R xs
  all_both P Q R [] f a b = tt
  all_both P Q R (x ∷ xs) f a b = (f x a.0 b.0, all_both P Q R xs f a.1 b.1)

  pub all_push : (P : A → Type 0) (xs : List A) (x : A) → AllByRecursion P xs → P x → AllByRecursion P (xs ++ x ∷ [])
  all_push P [] x a p = (p, tt)
  all_push P (y ∷ xs) x a p = (a.0, all_push P xs x a.1 p)

  all_kept : (P : A → Type 0) (b : Bool) (x : A) (xs : List A) → P x → AllByRecursion P xs → AllByRecursion P (cond b (x ∷ xs) xs)
  all_kept P true x xs p a = (p, a)
  all_kept P false x xs p a = a

  pub all_filter : (P : A → Type 0) (test : A → Bool) (xs : List A) → AllByRecursion P xs → AllByRecursion P (filter test xs)
  all_filter P test [] a = tt
  all_filter P test (x ∷ xs) a = all_kept P (test x) x (filter test xs) a.0 (all_filter P test xs a.1)

  pub all_found : (P : A → Type 0) (test : A → Bool) (xs : List A) (x : A) → find test xs ≡ Some x → AllByRecursion P xs → P x
  all_found P test [] x e a = absurd cc
  all_found P test (y ∷ ys) x e a = go (test y) (λ f. all_found P test ys x f a.1) e
    where
      go : (b : Bool) → (find test ys ≡ Some x → P x) → cond b (Some y) (find test ys) ≡ Some x → P x
      go true rest f = let yx : y ≡ x = cc in subst P yx a.0
      go false rest f = rest f

  -- tests that agree on each member find the same
  pub find_same : (p q : A → Bool) (xs : List A) → AllByRecursion (λ x. p x ≡ q x) xs → find p xs ≡ find q xs
  find_same p q [] a = refl
  find_same p q (x ∷ xs) a = rw (a.0, find_same p q xs a.1) refl

  pub filter_same : (p q : A → Bool) (xs : List A) → AllByRecursion (λ x. p x ≡ q x) xs → filter p xs ≡ filter q xs
  filter_same p q [] a = refl
  filter_same p q (x ∷ xs) a = rw (a.0, filter_same p q xs a.1) refl

  pub any_same : (p q : A → Bool) (xs : List A) → AllByRecursion (λ x. p x ≡ q x) xs → list_any p xs ≡ list_any q xs
  any_same p q [] a = refl
  any_same p q (x ∷ xs) a = rw (a.0, any_same p q xs a.1) refl

  pub some_found : (p : A → Bool) (xs : List A) → is_some (find p xs) ≡ list_any p xs
  some_found p [] = refl
  some_found p (x ∷ xs) = go (p x) (some_found p xs)
    where
      go : (b : Bool) → is_some (find p xs) ≡ list_any p xs → is_some (cond b (Some x) (find p xs)) ≡ (b || list_any p xs)
      go true rest = refl
      go false rest = rest

module _ {A B : Type 0} where
  pub all_map : (P : A → Type 0) (Q : B → Type 0) (f : A → B) (xs : List A) → ((x : A) → P x → Q (f x)) → AllByRecursion P xs → AllByRecursion Q (map f xs)
  all_map P Q f [] g a = tt
  all_map P Q f (x ∷ xs) g a = (g x a.0, all_map P Q f xs g a.1)

  pub all_unmap : (Q : B → Type 0) (f : A → B) (xs : List A) → AllByRecursion Q (map f xs) → AllByRecursion (λ x. Q (f x)) xs
  all_unmap Q f [] a = tt
  all_unmap Q f (x ∷ xs) a = (a.0, all_unmap Q f xs a.1)

  pub any_map : (p : B → Bool) (f : A → B) (xs : List A) → list_any p (map f xs) ≡ list_any (λ x. p (f x)) xs
  any_map p f [] = refl
  any_map p f (x ∷ xs) = ap (λ b. p (f x) || b) (any_map p f xs)

-- an option that is there
pub is_there : {A : Type 0} (o : Option A) → is_some o ≡ true → (x : A) × (o ≡ Some x)
is_there None e = absurd cc
is_there (Some x) e = (x, refl)

pub not_there : {A : Type 0} (o : Option A) → is_some o ≡ false → o ≡ None
not_there None e = refl
not_there (Some x) e = absurd cc
