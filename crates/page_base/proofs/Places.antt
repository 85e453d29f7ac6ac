-- Lists by what stands at their places.
use Rattle.std.proofs.Common.{◌≡◌, ◌⊎◌, inl, inr, ℕ, zero, suc, List, [], ◌∷◌, ◌++◌, length, slice_get, Some, refl, sym, ap, ◌∙◌, arith}

some_is : {A : Type 0} {x y : A} → Some x ≡ Some y → x ≡ y
some_is e = cc

pub same_items : {A : Type 0} (xs ys : List A) → length xs ≡ length ys → ((i : ℕ) (x : A) → slice_get xs i ≡ Some x → slice_get ys i ≡ Some x) → xs ≡ ys
same_items [] [] e same = refl
same_items [] (y ∷ ys) e same = absurd (omega (arith, e))
same_items (x ∷ xs) [] e same = absurd (omega (arith, e))
same_items (x ∷ xs) (y ∷ ys) e same = ap (λ z. z ∷ xs) (sym (some_is (same 0 x refl))) ∙ ap (λ zs. y ∷ zs) (same_items xs ys (omega (arith, e)) (λ i z h. same (suc i) z h))

pub slice_get-push_cases : {A : Type 0} (xs : List A) (x y : A) (i : ℕ) → slice_get (xs ++ x ∷ []) i ≡ Some y → (slice_get xs i ≡ Some y) ⊎ ((i ≡ length xs) × (y ≡ x))
slice_get-push_cases [] x y zero e = inr (refl, cc)
slice_get-push_cases [] x y (suc i) e = absurd (cc)
slice_get-push_cases (z ∷ xs) x y zero e = inl e
slice_get-push_cases (z ∷ xs) x y (suc i) e = elim (slice_get-push_cases xs x y i e) [ inl h ↦ inl h | inr h ↦ inr (ap suc h.0, h.1) ]
