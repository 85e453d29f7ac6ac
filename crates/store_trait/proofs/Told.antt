-- What a lane tells of a page, where a function gives its pages' bytes.
use Rattle.std.proofs.Common.{◌≡◌, inl, inr, ℕ, true, cond, List, Option, Some, None, is_some, refl, sym, ap, subst, ◌∙◌}
use Rattle.std.specs.Option.{IfSome}
use Rattle.std.proofs.lemmas.Bool.{cases_Bool, cond-true, cond-false}
use Rattle.std.proofs.lemmas.List.{ext_get_or}
use Rattle.page_base.specs.Lanes.{Origin, has_page, told_at}
use Rattle.store_trait.specs.Lanes.{IsPageOf, retold}
use Rattle.store_trait.specs.Memory.{told_by}
use Rattle.store_trait.specs.WholePages.{length-told_by, told_at-told_by}

pub told_of_page : (o : Origin) (f : ℕ → List ℕ) (p : ℕ) → has_page o p ≡ true → told_at (told_by o f) p ≡ Some (f p)
told_of_page o f p h = told_at-told_by o f p ∙ cond-true (has_page o p) (Some (f p)) None h

-- two functions that agree at the lane's pages tell the same
pub same_told_at : (o : Origin) (f g : ℕ → List ℕ) (p : ℕ) → (has_page o p ≡ true → f p ≡ g p) → told_at (told_by o f) p ≡ told_at (told_by o g) p
same_told_at o f g p same = told_at-told_by o f p ∙ agree ∙ sym (told_at-told_by o g p)
  where
    agree : cond (has_page o p) (Some (f p)) None ≡ cond (has_page o p) (Some (g p)) None
    agree = elim (cases_Bool (has_page o p)) [
      | inl its ↦ cond-true (has_page o p) (Some (f p)) None its ∙ ap Some (same its) ∙ sym (cond-true (has_page o p) (Some (g p)) None its)
      | inr other ↦ cond-false (has_page o p) (Some (f p)) None other ∙ sym (cond-false (has_page o p) (Some (g p)) None other)
    ]

pub told_by-same : (o : Origin) (f g : ℕ → List ℕ) → ((p : ℕ) → has_page o p ≡ true → f p ≡ g p) → told_by o f ≡ told_by o g
told_by-same o f g same = ext_get_or None (told_by o f) (told_by o g) (length-told_by o f ∙ sym (length-told_by o g)) (λ i _. same_told_at o f g i (same i))

-- what is told of a page is what was read
pub is_page_of : (told : List (Option (List ℕ))) (p : ℕ) (kept bytes : List ℕ) → told_at told p ≡ Some kept → bytes ≡ kept → IsPageOf told p bytes
is_page_of told p kept bytes tells same = let P : Option (List ℕ) → Type 0 = λ o. IfSome o (λ k. bytes ≡ k) in subst P (sym tells) same

-- what was read of a page that is told is what is told
pub read_is_told : (told : List (Option (List ℕ))) (page : ℕ) (kept bytes : List ℕ) → told_at told page ≡ Some kept → IsPageOf told page bytes → bytes ≡ kept
read_is_told told page kept bytes there is = let P : Option (List ℕ) → Type 0 = λ o. IfSome o (λ k. bytes ≡ k) in subst P there is

-- what is written to a page that is told is told of it
pub written_is_told : (told : Option (List ℕ)) (bytes : List ℕ) → is_some told ≡ true → retold told bytes ≡ Some bytes
written_is_told None bytes tells = absurd cc
written_is_told (Some kept) bytes tells = refl
