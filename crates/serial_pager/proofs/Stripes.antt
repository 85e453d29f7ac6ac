-- The pages of one stripe of a pager; and one item of a list changed.
use Rattle.std.proofs.Common.{◌≡◌, inl, inr, ℕ, zero, suc, true, List, [], ◌∷◌, map, Option, Some, None, slice_get, slice_set, sym, ap, subst, ◌∙◌}
use Rattle.std.proofs.lemmas.Bool.{cases_eq, and_parts, eq-eqb, eqb-true}
use Rattle.std.specs.Cmp.Derive.{both_true}
use Rattle.page_base.specs.declared.keys.Key.{Key}
use Rattle.page_base.specs.declared.keys.RegionShape.{RegionShape}
use Rattle.page_base.specs.Pages.{stripe_of}
use Rattle.page_model.specs.Core.{Core}
use Rattle.page_model.specs.Setups as setup
use Rattle.page_model.specs.Setups.{Setup}
use Rattle.serial_pager.specs.Pagers.{PagerSeen, group_in, region_has_page, has_key, is_writable, may_store, stripe_at}
use Rattle.serial_pager.specs.InsideSound.{IsStripe}
use Rattle.serial_pager.proofs.Lists.{slice_set_same, slice_set_other, some_is}

-- ---- which stripe a page lies in

in_stripe : (s : Setup) (o : Option RegionShape) (k : Key) → setup.is_page_of s o k ≡ true → (region_has_page o k.page ≡ true) × (stripe_of s.stripes (group_in o) k.region k.page ≡ s.number)
in_stripe s None k e = absurd (cc)
in_stripe s (Some shape) k e = let both = and_parts _ _ e in (both.0, eqb-true _ _ both.1)

of_stripe : (s : Setup) (o : Option RegionShape) (k : Key) → region_has_page o k.page ≡ true → stripe_of s.stripes (group_in o) k.region k.page ≡ s.number → setup.is_page_of s o k ≡ true
of_stripe s None k e f = absurd (cc)
of_stripe s (Some shape) k e f = both_true e (eq-eqb _ _ f)

module _ {J : Type 0} (p : PagerSeen J) (s : ℕ) (c : Core) (part : IsStripe p s c) where
  -- the pages of a stripe are the pager's pages that lie in it
  pub pages_of_stripe : (k : Key) → setup.has_page c.setup k ≡ true → (has_key p k ≡ true) × (stripe_at p k ≡ s)
  pages_of_stripe k e =
      let both = in_stripe c.setup (slice_get p.shapes k.region) k (subst (λ (ss : List RegionShape). setup.is_page_of c.setup (slice_get ss k.region) k ≡ true) part.shapes e) in
      (both.0, ap (λ n. stripe_of n (group_in (slice_get p.shapes k.region)) k.region k.page) (sym part.stripes) ∙ both.1 ∙ part.number)

  pub stripe_of_pages : (k : Key) → has_key p k ≡ true → stripe_at p k ≡ s → setup.has_page c.setup k ≡ true
  stripe_of_pages k e f =
      subst (λ (ss : List RegionShape). setup.is_page_of c.setup (slice_get ss k.region) k ≡ true) (sym part.shapes)
      (of_stripe c.setup (slice_get p.shapes k.region) k e (ap (λ n. stripe_of n (group_in (slice_get p.shapes k.region)) k.region k.page) part.stripes ∙ f ∙ sym part.number))

  writable_in : (o : Option RegionShape) → may_store o ≡ true → setup.may_write o ≡ true
  writable_in None e = e
  writable_in (Some shape) e = e

  pub writable_stripe : (r : ℕ) → is_writable p r ≡ true → setup.is_writable c.setup r ≡ true
  writable_stripe r e = subst (λ (ss : List RegionShape). setup.may_write (slice_get ss r) ≡ true) (sym part.shapes) (writable_in (slice_get p.shapes r) e)

-- ---- one item changed

-- an item that maps to what it did
pub map_set : {A B : Type 0} (f : A → B) (xs : List A) (i : ℕ) (x y : A) → slice_get xs i ≡ Some x → f y ≡ f x → map f (slice_set xs i y) ≡ map f xs
map_set f [] i x y is same = absurd (cc)
map_set f (z ∷ xs) zero x y is same = ap (λ v. v ∷ map f xs) (same ∙ ap f (sym (some_is is)))
map_set f (z ∷ xs) (suc i) x y is same = ap (λ vs. f z ∷ vs) (map_set f xs i x y is same)

-- what holds of the item that changed, and of each that didn't, holds of each
pub each_set : {A : Type 0} (was : List A) (s : ℕ) (x y : A) → slice_get was s ≡ Some x → (P : ℕ → A → A → Type 0) → P s x y → ((n : ℕ) (a : A) → (n ≡ s → ⊥) → slice_get was n ≡ Some a → P n a a)
    → (n : ℕ) (a b : A) → slice_get was n ≡ Some a → slice_get (slice_set was s y) n ≡ Some b → P n a b
each_set {A} was s x y here P changed others n a b e g = elim (cases_eq n s) [
  | inl is ↦
      let first : x ≡ a = some_is (sym here ∙ (ap (slice_get was) (sym is) ∙ e)) in
      let second : y ≡ b = some_is (sym (slice_set_same was s x y here) ∙ (ap (slice_get (slice_set was s y)) (sym is) ∙ g)) in
      subst (λ (i : ℕ). P i a b) (sym is) (subst (λ (v : A). P s v b) first (subst (λ (v : A). P s x v) second changed))
  | inr other ↦
      let same : a ≡ b = some_is (sym e ∙ (sym (slice_set_other was s n y other) ∙ g)) in
      subst (λ (v : A). P n a v) same (others n a other e)
]
