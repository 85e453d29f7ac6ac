-- A list that a loop maps in place, one element after the other.
use Rattle.std.proofs.Common.{◌≡◌, ℕ, zero, suc, ◌+◌, ◌<◌, List, [], ◌∷◌, ◌++◌, map, take, drop, length, set, get_or, refl, sym, subst, ap, ◌∙◌, arith}
use native.Mathlib.Numerals.{unary_clauses}

map_next : {A : Type 0} (f : A → A) (xs : List A) (i : ℕ) (d : A) → i < length xs
    → set (map f (take i xs) ++ drop i xs) i (f (get_or (map f (take i xs) ++ drop i xs) i d)) ≡ map f (take (suc i) xs) ++ drop (suc i) xs
map_next f [] i d h = absurd (omega (arith, h))
map_next f (x ∷ xs) zero d h = refl
map_next f (x ∷ xs) (suc i) d h = ap (λ ys. f x ∷ ys) (map_next f xs i d (omega (arith, h)))

pub map_more : {A : Type 0} (f : A → A) (xs now : List A) (i : ℕ) (y d : A) → i < length xs → now ≡ map f (take i xs) ++ drop i xs → y ≡ f (get_or now i d)
    → set now i y ≡ map f (take (i + 1) xs) ++ drop (i + 1) xs
map_more f xs now i y d h is its =
    simp unary_clauses (ap (set now i) its ∙ subst (λ n. set n i (f (get_or n i d)) ≡ map f (take (suc i) xs) ++ drop (suc i) xs) (sym is) (map_next f xs i d h))
