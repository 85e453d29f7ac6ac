-- Small facts on lists, on pages laid one after another, and on what is read of a lane.
use Rattle.std.proofs.Common.{◌≡◌, ℕ, suc, ◌+◌, ◌*◌, ◌<◌, ◌≤◌, true, List, [], ◌∷◌, ◌++◌, length, Some, None, slice_get, refl, sym, ap, ◌∙◌, arith, rules}
use Rattle.std.proofs.lemmas.Bool.{cond-true}
use Rattle.std.proofs.lemmas.List.{places, same_lists}
use Rattle.std.proofs.lemmas.Nat.{mul-le}
use Rattle.std.proofs.Math.Nat.{add-sub_cancel_left}
use Rattle.page_base.specs.Lanes.{Origin, has_page, told_at}
use Rattle.store_trait.specs.Memory.{page_bytes, told_by}
use Rattle.store_trait.specs.WholePages.{told_at-told_by}

pub some_is : {A : Type 0} {x y : A} → Some x ≡ Some y → x ≡ y
some_is e = cc

-- lists with the same items at all places are one
pub same_items : {A : Type 0} (xs ys : List A) → length xs ≡ length ys → ((i : ℕ) (x : A) → slice_get xs i ≡ Some x → slice_get ys i ≡ Some x) → xs ≡ ys
same_items [] [] e same = refl
same_items [] (y ∷ ys) e same = absurd (omega (arith, e))
same_items (x ∷ xs) [] e same = absurd (omega (arith, e))
same_items (x ∷ xs) (y ∷ ys) e same = ap (λ z. z ∷ xs) (sym (some_is (same 0 x refl))) ∙ ap (λ zs. y ∷ zs) (same_items xs ys (omega (arith, e)) (λ i z h. same (suc i) z h))

-- two rows of n lie apart
pub rows_apart : (i j n : ℕ) → i < j → i * n + n ≤ j * n
rows_apart i j n h = omega (arith, mul-le (i + 1) n j n (omega arith) (omega arith))

-- a page below the end of a list stays where more is appended
pub page_of-append : (size row : ℕ) (xs ys : List ℕ) → row * size + size ≤ length xs → page_bytes size (xs ++ ys) row ≡ page_bytes size xs row
page_of-append size row xs ys fits = rw (add-sub_cancel_left (row * size) size) (same_lists _ _ (search (rules, places)) (λ k d h. grind (arith, places)))

-- what is appended is the page behind
pub page_of-appended : (size row : ℕ) (xs ys : List ℕ) → length xs ≡ row * size → length ys ≡ size → page_bytes size (xs ++ ys) row ≡ ys
page_of-appended size row xs ys e f = rw (add-sub_cancel_left (row * size) size) (same_lists _ _ (search (rules, places)) (λ k d h. grind (arith, places)))

-- what a lane tells of a page that it has
pub told_of_page : (o : Origin) (f : ℕ → List ℕ) (p : ℕ) → has_page o p ≡ true → told_at (told_by o f) p ≡ Some (f p)
told_of_page o f p h = told_at-told_by o f p ∙ cond-true (has_page o p) (Some (f p)) None h
