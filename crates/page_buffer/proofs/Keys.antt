-- Keys that name one page.
use Rattle.std.proofs.Common.{◌≡◌, Bool, true, false, ◌==◌, refl, sym, subst}
use Rattle.std.proofs.lemmas.Bool.{eqb-true, eq-eqb, and_parts, and_from}
use Rattle.page_base.specs.declared.keys.Key.{Key}
use Rattle.page_base.specs.Pages.{same}

pub same-true : (a b : Key) → same a b ≡ true → a ≡ b
same-true a b e =
    let parts = and_parts (a.page == b.page) (a.region == b.region) e in
    let p : a.page ≡ b.page = eqb-true a.page b.page parts.0 in
    let r : a.region ≡ b.region = eqb-true a.region b.region parts.1 in
    λ i. record { region = r i; page = p i }

pub same_self : (a : Key) → same a a ≡ true
same_self a = and_from (a.page == a.page) (a.region == a.region) (eq-eqb a.page a.page refl) (eq-eqb a.region a.region refl)

pub same-flip : (a b : Key) (t : Bool) → same a b ≡ t → same b a ≡ t
same-flip a b true e = subst (λ k. same k a ≡ true) (same-true a b e) (same_self a)
same-flip a b false e = by_test (same b a) refl
  where
    by_test : (t : Bool) → same b a ≡ t → t ≡ false
    by_test false back = refl
    by_test true back = let yes = subst (λ k. same a k ≡ true) (sym (same-true b a back)) (same_self a) in absurd (cc (yes, e))
