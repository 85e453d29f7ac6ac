-- Lists by the numbers of their items.
use Rattle.std.proofs.Common.{◌≡◌, ◌⊎◌, inl, inr, ℕ, zero, suc, ◌+◌, ◌-◌, ◌<◌, ◌≤◌, Bool, true, false, List, [], ◌∷◌, ◌++◌, map, length, take, get_or, slice_get, slice_index_or, Option, Some, None, refl, sym, ap, subst, ◌∙◌, arith, append-nil, append_assoc, length-append}
use Rattle.std.specs.Prelude.{◌||◌}
use Rattle.std.specs.List.{Contains, list_any, list_all, range_with_len}
use Rattle.std.proofs.lemmas.Bool.{cases_lt, and_parts}

pub some_is : {X : Type 0} {a b : X} → Some a ≡ Some b → a ≡ b
some_is {X} {a} {b} e = ap (from a) e
  where
    from : X → Option X → X
    from d (Some c) = c
    from d None = d

pub heads : {X : Type 0} {x y : X} {xs ys : List X} → x ∷ xs ≡ y ∷ ys → x ≡ y
heads {X} {x} {y} {xs} {ys} e = ap (first x) e
  where
    first : X → List X → X
    first d [] = d
    first d (z ∷ zs) = z

pub tails : {X : Type 0} {x y : X} {xs ys : List X} → x ∷ xs ≡ y ∷ ys → xs ≡ ys
tails {X} {x} {y} {xs} {ys} e = ap rest e
  where
    rest : List X → List X
    rest [] = []
    rest (z ∷ zs) = zs

-- ---- items by number

pub got_at : {X : Type 0} (xs : List X) (k : ℕ) → k < length xs → (x : X) × (slice_get xs k ≡ Some x)
got_at [] k h = absurd (omega arith)
got_at (x ∷ xs) zero h = (x, refl)
got_at (x ∷ xs) (suc k) h = got_at xs k (omega arith)

pub inside_of : {X : Type 0} (xs : List X) (k : ℕ) (x : X) → slice_get xs k ≡ Some x → k < length xs
inside_of [] k x e = absurd (cc)
inside_of (y ∷ xs) zero x e = omega arith
inside_of (y ∷ xs) (suc k) x e = omega (arith, inside_of xs k x e)

pub slice_get_at : {X : Type 0} (xs : List X) (k : ℕ) (d : X) → k < length xs → slice_get xs k ≡ Some (slice_index_or xs k d)
slice_get_at [] k d h = absurd (omega arith)
slice_get_at (x ∷ xs) zero d h = refl
slice_get_at (x ∷ xs) (suc k) d h = slice_get_at xs k d (omega arith)

pub index_or_at : {X : Type 0} (xs : List X) (k : ℕ) (d x : X) → slice_get xs k ≡ Some x → slice_index_or xs k d ≡ x
index_or_at [] k d x e = absurd (cc)
index_or_at (y ∷ xs) zero d x e = some_is e
index_or_at (y ∷ xs) (suc k) d x e = index_or_at xs k d x e

pub slice_get_map : {X Y : Type 0} (f : X → Y) (xs : List X) (k : ℕ) (y : Y) → slice_get (map f xs) k ≡ Some y → (x : X) × (slice_get xs k ≡ Some x) × (y ≡ f x)
slice_get_map f [] k y e = absurd (cc)
slice_get_map f (x ∷ xs) zero y e = (x, refl, sym (some_is e))
slice_get_map f (x ∷ xs) (suc k) y e = slice_get_map f xs k y e

pub map_at : {X Y : Type 0} (f : X → Y) (xs : List X) (k : ℕ) (x : X) → slice_get xs k ≡ Some x → slice_get (map f xs) k ≡ Some (f x)
map_at f [] k x e = absurd (cc)
map_at f (y ∷ xs) zero x e = ap (λ z. Some (f z)) (some_is e)
map_at f (y ∷ xs) (suc k) x e = map_at f xs k x e

pub taken_at : {X : Type 0} (xs : List X) (k i : ℕ) (x : X) → slice_get (take k xs) i ≡ Some x → (i < k) × (slice_get xs i ≡ Some x)
taken_at [] k i x e = absurd (none k e)
  where
    none : (k : ℕ) → slice_get (take k []) i ≡ Some x → ⊥
    none zero e = cc
    none (suc k) e = cc
taken_at (y ∷ xs) zero i x e = absurd (cc)
taken_at (y ∷ xs) (suc k) zero x e = (omega arith, e)
taken_at (y ∷ xs) (suc k) (suc i) x e = let rest = taken_at xs k i x e in (omega (arith, rest.0), rest.1)

pub take_at : {X : Type 0} (xs : List X) (k i : ℕ) (x : X) → i < k → slice_get xs i ≡ Some x → slice_get (take k xs) i ≡ Some x
take_at [] k i x h e = absurd (cc)
take_at (y ∷ xs) zero i x h e = absurd (omega (arith, h))
take_at (y ∷ xs) (suc k) zero x h e = e
take_at (y ∷ xs) (suc k) (suc i) x h e = take_at xs k i x (omega (arith, h)) e

pub take_len : {X : Type 0} (xs : List X) (k : ℕ) → k ≤ length xs → length (take k xs) ≡ k
take_len xs zero h = refl
take_len [] (suc k) h = absurd (omega (arith, h))
take_len (x ∷ xs) (suc k) h = ap suc (take_len xs k (omega (arith, h)))

pub take_whole : {X : Type 0} (xs : List X) → take (length xs) xs ≡ xs
take_whole [] = refl
take_whole (x ∷ xs) = ap (λ ys. x ∷ ys) (take_whole xs)

pub front_at : {X : Type 0} (xs ys : List X) (k : ℕ) (d : X) → k < length xs → slice_index_or (xs ++ ys) k d ≡ slice_index_or xs k d
front_at [] ys k d h = absurd (omega (arith, h))
front_at (x ∷ xs) ys zero d h = refl
front_at (x ∷ xs) ys (suc k) d h = front_at xs ys k d (omega (arith, h))

pub seam_at : {X : Type 0} (xs : List X) (y d : X) → slice_index_or (xs ++ y ∷ []) (length xs) d ≡ y
seam_at [] y d = refl
seam_at (x ∷ xs) y d = seam_at xs y d

-- ---- what a list contains

pub first_in : {X : Type 0} (x : X) (xs : List X) → Contains (x ∷ xs) x
first_in x xs = (0, omega arith, refl)

pub in_front : {X : Type 0} (x y : X) (xs : List X) → Contains xs x → Contains (y ∷ xs) x
in_front x y xs has = (suc has.0, omega (arith, has.1), has.2)

pub in_left : {X : Type 0} (xs ys : List X) (x : X) → Contains xs x → Contains (xs ++ ys) x
in_left [] ys x has = absurd (omega (arith, has.1))
in_left (z ∷ xs) ys x (zero, h, is) = subst (λ w. Contains (z ∷ (xs ++ ys)) w) is (first_in z (xs ++ ys))
in_left (z ∷ xs) ys x (suc k, h, is) = in_front x z (xs ++ ys) (in_left xs ys x (k, omega (arith, h), is))

pub in_right : {X : Type 0} (xs ys : List X) (x : X) → Contains ys x → Contains (xs ++ ys) x
in_right [] ys x has = has
in_right (z ∷ xs) ys x has = in_front x z (xs ++ ys) (in_right xs ys x has)

pub in_either : {X : Type 0} (xs ys : List X) (x : X) → Contains (xs ++ ys) x → Contains xs x ⊎ Contains ys x
in_either [] ys x has = inr has
in_either (z ∷ xs) ys x (zero, h, is) = inl (subst (λ w. Contains (z ∷ xs) w) is (first_in z xs))
in_either (z ∷ xs) ys x (suc k, h, is) = elim (in_either xs ys x (k, omega (arith, h), is)) [
  | inl left ↦ inl (in_front x z xs left)
  | inr right ↦ inr right
]

pub in_at : {X : Type 0} (xs : List X) (k : ℕ) (d : X) → k < length xs → Contains xs (slice_index_or xs k d)
in_at [] k d h = absurd (omega (arith, h))
in_at (x ∷ xs) zero d h = first_in x xs
in_at (x ∷ xs) (suc k) d h = in_front (slice_index_or xs k d) x xs (in_at xs k d (omega (arith, h)))

pub in_map : {X Y : Type 0} (f : X → Y) (xs : List X) (x : X) → Contains xs x → Contains (map f xs) (f x)
in_map f [] x has = absurd (omega (arith, has.1))
in_map f (z ∷ xs) x (zero, h, is) = subst (λ w. Contains (f z ∷ map f xs) (f w)) is (first_in (f z) (map f xs))
in_map f (z ∷ xs) x (suc k, h, is) = in_front (f x) (f z) (map f xs) (in_map f xs x (k, omega (arith, h), is))

pub of_map : {X Y : Type 0} (f : X → Y) (xs : List X) (y : Y) → Contains (map f xs) y → (x : X) × Contains xs x × (f x ≡ y)
of_map f [] y has = absurd (omega (arith, has.1))
of_map f (z ∷ xs) y (zero, h, is) = (z, first_in z xs, is)
of_map f (z ∷ xs) y (suc k, h, is) = let rest = of_map f xs y (k, omega (arith, h), is) in (rest.0, in_front rest.0 z xs rest.1, rest.2)

pub in_range : (a n k : ℕ) → a ≤ k → k < a + n → Contains (range_with_len a n) k
in_range a zero k low high = absurd (omega (arith, low, high))
in_range a (suc n) k low high = elim (cases_lt a k) [
  | inl later ↦ in_front k a (range_with_len (a + 1) n) (in_range (a + 1) n k (omega (arith, later)) (omega (arith, high)))
  | inr same ↦ let e : a ≡ k = omega (arith, same, low) in subst (λ j. Contains (a ∷ range_with_len (a + 1) n) j) e (first_in a (range_with_len (a + 1) n))
]

pub of_range : (a n k : ℕ) → Contains (range_with_len a n) k → k < a + n
of_range a zero k has = absurd (omega (arith, has.1))
of_range a (suc n) k (zero, h, is) = let e : a ≡ k = is in omega (arith, e)
of_range a (suc n) k (suc j, h, is) = omega (arith, of_range (a + 1) n k (j, omega (arith, h), is))

-- ---- tests of all items

pub any_false : {X : Type 0} (P : X → Bool) (xs : List X) (k : ℕ) (x : X) → list_any P xs ≡ false → slice_get xs k ≡ Some x → P x ≡ false
any_false P [] k x none e = absurd (cc)
any_false P (y ∷ xs) zero x none e = subst (λ z. P z ≡ false) (some_is e) (or_first (P y) (list_any P xs) none)
  where
    or_first : (a b : Bool) → (a || b) ≡ false → a ≡ false
    or_first true b e = e
    or_first false b e = refl
any_false P (y ∷ xs) (suc k) x none e = any_false P xs k x (or_rest (P y) (list_any P xs) none) e
  where
    or_rest : (a b : Bool) → (a || b) ≡ false → b ≡ false
    or_rest true b e = absurd (cc)
    or_rest false b e = e

pub any_true : {X : Type 0} (P : X → Bool) (xs : List X) → list_any P xs ≡ true → (x : X) × Contains xs x × (P x ≡ true)
any_true P [] some = absurd (cc)
any_true {X} P (y ∷ xs) some = here (P y) refl some (any_true P xs)
  where
    here : (b : Bool) → P y ≡ b → (b || list_any P xs) ≡ true → (list_any P xs ≡ true → (x : X) × Contains xs x × (P x ≡ true)) → (x : X) × Contains (y ∷ xs) x × (P x ≡ true)
    here true is e rest = (y, first_in y xs, is)
    here false is e rest = let r = rest e in (r.0, in_front r.0 y xs r.1, r.2)

pub all_true : {X : Type 0} (P : X → Bool) (xs : List X) (k : ℕ) (x : X) → list_all P xs ≡ true → slice_get xs k ≡ Some x → P x ≡ true
all_true P [] k x all e = absurd (cc)
all_true P (y ∷ xs) zero x all e = subst (λ z. P z ≡ true) (some_is e) (and_parts (P y) (list_all P xs) all).0
all_true P (y ∷ xs) (suc k) x all e = all_true P xs k x (and_parts (P y) (list_all P xs) all).1 e
