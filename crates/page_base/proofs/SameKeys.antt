-- Keys that are the same.
use Rattle.std.proofs.Common.{false, inl, inr, refl, sym, true, ◌==◌, ◌∙◌, ◌≡◌}
use Rattle.std.proofs.lemmas.Bool.{and_from, and_parts, cases_Bool, eq-eqb, eqb-true, false_from_ne_true}
use Rattle.page_base.specs.Pages.{same}
use Rattle.page_base.specs.declared.keys.Key.{Key}

pub same-true : (a b : Key) → same a b ≡ true → a ≡ b
same-true a b e =
    let parts = and_parts (a.page == b.page) (a.region == b.region) e in
    let p : a.page ≡ b.page = eqb-true a.page b.page parts.0 in
    let r : a.region ≡ b.region = eqb-true a.region b.region parts.1 in
    λ i. record { region = r i; page = p i }

pub same_self : (a : Key) → same a a ≡ true
same_self a = and_from (a.page == a.page) (a.region == a.region) (eq-eqb a.page a.page refl) (eq-eqb a.region a.region refl)

pub not_same : (a b : Key) → (a ≡ b → ⊥) → same a b ≡ false
not_same a b n = false_from_ne_true (same a b) (λ e. n (same-true a b e))

pub same_comm : (a b : Key) → same a b ≡ same b a
same_comm a b = elim (cases_Bool (same b a)) [
  | inl t ↦ let ba : b ≡ a = same-true b a t in let ab : same a b ≡ true = rw ba (same_self a) in ab ∙ sym t
  | inr n ↦ let ab : same a b ≡ false = not_same a b (λ is. let ba : same b a ≡ true = rw is (same_self b) in cc) in ab ∙ sym n
]
