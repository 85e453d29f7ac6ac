-- Lists by the numbers of their items, and values that may be there.
use Rattle.std.proofs.Common.{◌≡◌, ◌⊎◌, inl, inr, ℕ, zero, suc, ◌+◌, ◌<◌, ◌≤◌, Bool, true, false, List, [], ◌∷◌, ◌++◌, length, map, get_or, slice_get, Option, Some, None, refl, sym, ap, subst, arith}
use Rattle.std.specs.Prelude.{◌||◌}
use Rattle.std.specs.Option.{IfSome}
use Rattle.std.specs.List.{Contains, list_any, list_all, range_with_len}
use Rattle.std.proofs.lemmas.Bool.{and_parts, and_from}
use Rattle.file_store.specs.Parts.{WhereTold}

pub some_is : {X : Type 0} {a b : X} → Some a ≡ Some b → a ≡ b
some_is {X} {a} {b} e = ap (from a) e
  where
    from : X → Option X → X
    from d (Some c) = c
    from d None = d

pub got_at : {X : Type 0} (xs : List X) (k : ℕ) → k < length xs → (x : X) × (slice_get xs k ≡ Some x)
got_at [] k h = absurd (omega (arith, h))
got_at (x ∷ xs) zero h = (x, refl)
got_at (x ∷ xs) (suc k) h = got_at xs k (omega (arith, h))

pub inside_of : {X : Type 0} (xs : List X) (k : ℕ) (x : X) → slice_get xs k ≡ Some x → k < length xs
inside_of [] k x e = absurd (cc)
inside_of (y ∷ xs) zero x e = omega arith
inside_of (y ∷ xs) (suc k) x e = omega (arith, inside_of xs k x e)

pub read_at : {X : Type 0} (xs : List X) (k : ℕ) (d x : X) → slice_get xs k ≡ Some x → get_or xs k d ≡ x
read_at [] k d x e = absurd (cc)
read_at (y ∷ xs) zero d x e = some_is e
read_at (y ∷ xs) (suc k) d x e = read_at xs k d x e

pub mapped_at : {X Y : Type 0} (f : X → Y) (xs : List X) (k : ℕ) (d : Y) (x : X) → slice_get xs k ≡ Some x → get_or (map f xs) k d ≡ f x
mapped_at f [] k d x e = absurd (cc)
mapped_at f (y ∷ xs) zero d x e = ap f (some_is e)
mapped_at f (y ∷ xs) (suc k) d x e = mapped_at f xs k d x e

-- ---- tests of all items, and of one

pub any_false : {X : Type 0} (P : X → Bool) (xs : List X) (k : ℕ) (x : X) → list_any P xs ≡ false → slice_get xs k ≡ Some x → P x ≡ false
any_false P [] k x none e = absurd (cc)
any_false P (y ∷ xs) zero x none e = subst (λ z. P z ≡ false) (some_is e) (or_first (P y) (list_any P xs) none)
  where
    or_first : (a b : Bool) → (a || b) ≡ false → a ≡ false
    or_first true b e = e
    or_first false b e = refl
any_false P (y ∷ xs) (suc k) x none e = any_false P xs k x (or_rest (P y) (list_any P xs) none) e
  where
    or_rest : (a b : Bool) → (a || b) ≡ false → b ≡ false
    or_rest true true e = absurd (cc)
    or_rest true false e = refl
    or_rest false b e = e

pub any_true : {X : Type 0} (P : X → Bool) (xs : List X) → list_any P xs ≡ true → (k : ℕ) × (x : X) × (slice_get xs k ≡ Some x) × (P x ≡ true)
any_true P [] some = absurd (cc)
any_true {X} P (y ∷ xs) some = here (P y) refl some (any_true P xs)
  where
    here : (b : Bool) → P y ≡ b → (b || list_any P xs) ≡ true → (list_any P xs ≡ true → (k : ℕ) × (x : X) × (slice_get xs k ≡ Some x) × (P x ≡ true)) → (k : ℕ) × (x : X) × (slice_get (y ∷ xs) k ≡ Some x) × (P x ≡ true)
    here true is e rest = (0, y, refl, is)
    here false is e rest = let r = rest e in (suc r.0, r.1, r.2, r.3)

pub all_true : {X : Type 0} (P : X → Bool) (xs : List X) (k : ℕ) (x : X) → list_all P xs ≡ true → slice_get xs k ≡ Some x → P x ≡ true
all_true P [] k x all e = absurd (cc)
all_true P (y ∷ xs) zero x all e = subst (λ z. P z ≡ true) (some_is e) (and_parts (P y) (list_all P xs) all).0
all_true P (y ∷ xs) (suc k) x all e = all_true P xs k x (and_parts (P y) (list_all P xs) all).1 e

-- ---- what may be there

pub if_some : {X : Type 0} {P : X → Type 0} (o : Option X) → ((x : X) → o ≡ Some x → P x) → IfSome o P
if_some None each = tt
if_some (Some x) each = each x refl

pub where_told : {A B : Type 0} {P Q : A → B → Type 0} (a : Option A) (b : Option B) → ((x : A) (y : B) → a ≡ Some x → P x y → Q x y) → WhereTold P a b → WhereTold Q a b
where_told None None f h = tt
where_told None (Some y) f h = absurd h
where_told (Some x) None f h = absurd h
where_told (Some x) (Some y) f h = f x y refl h

-- two changes, one behind the other
pub where_told_then : {A B C : Type 0} {P : A → B → Type 0} {Q : B → C → Type 0} {R : A → C → Type 0} (a : Option A) (b : Option B) (c : Option C) → ((x : A) (y : B) (z : C) → a ≡ Some x → P x y → Q y z → R x z) → WhereTold P a b → WhereTold Q b c → WhereTold R a c
where_told_then None None None f h k = tt
where_told_then None None (Some z) f h k = absurd k
where_told_then None (Some y) c f h k = absurd h
where_told_then (Some x) None c f h k = absurd h
where_told_then (Some x) (Some y) None f h k = absurd k
where_told_then (Some x) (Some y) (Some z) f h k = f x y z refl h k
