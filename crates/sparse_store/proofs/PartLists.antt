-- Lists by the numbers of their items.
use Rattle.std.specs.Option.{IfSome}
use Rattle.std.proofs.Common.{◌≡◌, ◌⊎◌, inl, inr, ℕ, zero, suc, ◌+◌, ◌<◌, List, [], ◌∷◌, ◌++◌, map, length, get_or, take, drop, slice_get, Option, Some, None, refl, sym, ap, ◌∙◌, arith}
use Rattle.std.proofs.lemmas.List.{places, same_lists}

pub some_is : {X : Type 0} {a b : X} → Some a ≡ Some b → a ≡ b
some_is {X} {a} {b} e = ap (from a) e
  where
    from : X → Option X → X
    from d (Some c) = c
    from d None = d

pub inside_of : {X : Type 0} (xs : List X) (k : ℕ) (x : X) → slice_get xs k ≡ Some x → k < length xs
inside_of [] k x e = absurd (cc)
inside_of (y ∷ xs) zero x e = omega arith
inside_of (y ∷ xs) (suc k) x e = omega (arith, inside_of xs k x e)

pub got_map : {X Y : Type 0} (f : X → Y) (xs : List X) (k : ℕ) (y : Y) → slice_get (map f xs) k ≡ Some y → (x : X) × (slice_get xs k ≡ Some x) × (y ≡ f x)
got_map f [] k y e = absurd (cc)
got_map f (x ∷ xs) zero y e = (x, refl, sym (some_is e))
got_map f (x ∷ xs) (suc k) y e = got_map f xs k y e

pub at_left : {X : Type 0} (xs ys : List X) (k : ℕ) (x : X) → slice_get xs k ≡ Some x → slice_get (xs ++ ys) k ≡ Some x
at_left [] ys k x e = absurd (cc)
at_left (y ∷ xs) ys zero x e = e
at_left (y ∷ xs) ys (suc k) x e = at_left xs ys k x e

pub at_right : {X : Type 0} (xs ys : List X) (k j : ℕ) (x : X) → j ≡ length xs + k → slice_get ys k ≡ Some x → slice_get (xs ++ ys) j ≡ Some x
at_right [] ys k j x is e = ap (slice_get ys) (omega (arith, is)) ∙ e
at_right (y ∷ xs) ys k zero x is e = absurd (omega (arith, is))
at_right (y ∷ xs) ys k (suc j) x is e = at_right xs ys k j x (omega (arith, is)) e

pub grown : {X : Type 0} (xs : List X) (new x : X) (k : ℕ) → slice_get (xs ++ new ∷ []) k ≡ Some x → (slice_get xs k ≡ Some x) ⊎ ((k ≡ length xs) × (x ≡ new))
grown [] new x zero e = inr (omega arith, sym (some_is e))
grown [] new x (suc k) e = absurd (cc)
grown (y ∷ xs) new x zero e = inl e
grown (y ∷ xs) new x (suc k) e = elim (grown xs new x k e) [
  | inl old ↦ inl old
  | inr last ↦ inr (omega (arith, last.0), last.1)
]

pub if_some : {X : Type 0} {P Q : X → Type 0} (t : Option X) → ((x : X) → P x → Q x) → IfSome t P → IfSome t Q
if_some None f p = tt
if_some (Some x) f p = f x p

pub got_at : {X : Type 0} (xs : List X) (k : ℕ) (d : X) → k < length xs → slice_get xs k ≡ Some (get_or xs k d)
got_at [] k d below = absurd (omega (arith, below))
got_at (x ∷ xs) zero d below = refl
got_at (x ∷ xs) (suc k) d below = got_at xs k d (omega (arith, below))

pub none_left : {X : Type 0} (xs : List X) → length xs ≡ 0 → xs ≡ []
none_left [] e = refl
none_left (x ∷ xs) e = absurd (omega (arith, e))

-- a list written over as a whole
pub written_over : {X : Type 0} (n : ℕ) (xs ys : List X) → length ys ≡ n → length xs ≡ n → take n (xs ++ drop (length xs) ys) ≡ xs
written_over n xs ys e f = same_lists _ _ (grind (arith, places)) (λ k d h. grind (arith, places))
