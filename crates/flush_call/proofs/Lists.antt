-- A list with one item written over.
use Rattle.std.proofs.Common.{◌≡◌, ℕ, zero, suc, List, [], ◌∷◌, length, slice_set, Option, Some, None, refl, ap}
use Rattle.std.specs.List.{slice_get}

pub set_here : {A : Type 0} (xs : List A) (i : ℕ) (x v : A) → slice_get xs i ≡ Some x → slice_get (slice_set xs i v) i ≡ Some v
set_here [] i x v e = absurd cc
set_here (y ∷ ys) zero x v e = refl
set_here (y ∷ ys) (suc i) x v e = set_here ys i x v e

pub set_elsewhere : {A : Type 0} (xs : List A) (i j : ℕ) (v : A) → (j ≡ i → ⊥) → slice_get (slice_set xs i v) j ≡ slice_get xs j
set_elsewhere [] i j v ne = refl
set_elsewhere (y ∷ ys) zero zero v ne = absurd (ne refl)
set_elsewhere (y ∷ ys) zero (suc j) v ne = refl
set_elsewhere (y ∷ ys) (suc i) zero v ne = refl
set_elsewhere (y ∷ ys) (suc i) (suc j) v ne = set_elsewhere ys i j v (λ e. ne (ap suc e))

pub set_length : {A : Type 0} (xs : List A) (i : ℕ) (v : A) → length (slice_set xs i v) ≡ length xs
set_length [] i v = refl
set_length (y ∷ ys) zero v = refl
set_length (y ∷ ys) (suc i) v = ap suc (set_length ys i v)
