-- Lists with one item written over.
use Rattle.std.proofs.Common.{List, Some, [], ap, length, refl, slice_get, slice_set, suc, zero, ℕ, ◌∷◌, ◌≡◌}

pub slice_set_same : {A : Type 0} (xs : List A) (i : ℕ) (x v : A) → slice_get xs i ≡ Some x → slice_get (slice_set xs i v) i ≡ Some v
slice_set_same [] i x v e = absurd cc
slice_set_same (y ∷ ys) zero x v e = refl
slice_set_same (y ∷ ys) (suc i) x v e = slice_set_same ys i x v e

pub slice_set_other : {A : Type 0} (xs : List A) (i j : ℕ) (v : A) → (j ≡ i → ⊥) → slice_get (slice_set xs i v) j ≡ slice_get xs j
slice_set_other [] i j v ne = refl
slice_set_other (y ∷ ys) zero zero v ne = absurd (ne refl)
slice_set_other (y ∷ ys) zero (suc j) v ne = refl
slice_set_other (y ∷ ys) (suc i) zero v ne = refl
slice_set_other (y ∷ ys) (suc i) (suc j) v ne = slice_set_other ys i j v (λ e. ne (ap suc e))

pub slice_set_length : {A : Type 0} (xs : List A) (i : ℕ) (v : A) → length (slice_set xs i v) ≡ length xs
slice_set_length [] i v = refl
slice_set_length (y ∷ ys) zero v = refl
slice_set_length (y ∷ ys) (suc i) v = ap suc (slice_set_length ys i v)
