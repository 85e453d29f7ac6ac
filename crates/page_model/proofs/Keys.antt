-- Keys that are the same.
use Rattle.std.proofs.Common.{false, inl, inr, refl, sym, true, ℕ, ◌==◌, ◌∙◌, ◌≡◌}
use Rattle.std.proofs.lemmas.Bool.{and_from, and_parts, and_right, cases_Bool, eq-eqb, eqb-true, false_from_ne_true}
use Rattle.page_base.specs.Pages.{same}
use Rattle.page_base.specs.declared.keys.Key.{Key}

pub same-true : (a b : Key) → same a b ≡ true → a ≡ b
same-true a b e =
    let parts = and_parts (a.page == b.page) (a.region == b.region) e in
    let p : a.page ≡ b.page = eqb-true a.page b.page parts.0 in
    let r : a.region ≡ b.region = eqb-true a.region b.region parts.1 in
    λ i. record { region = r i; page = p i }

pub same_self : (a : Key) → same a a ≡ true
same_self a = and_from (a.page == a.page) (a.region == a.region) (eq-eqb a.page a.page refl) (eq-eqb a.region a.region refl)

pub other_region : (a b : Key) → (a.region == b.region) ≡ false → same a b ≡ false
other_region a b e = and_right (a.page == b.page) (a.region == b.region) e

pub same_comm : (a b : Key) → same a b ≡ same b a
same_comm a b = elim (cases_Bool (same b a)) [
  | inl t ↦ let ba : b ≡ a = same-true b a t in let ab : same a b ≡ true = rw ba (same_self a) in ab ∙ sym t
  | inr n ↦ let ab : same a b ≡ false = false_from_ne_true (same a b) (λ t. let is : a ≡ b = same-true a b t in let ba : same b a ≡ true = rw is (same_self b) in cc) in ab ∙ sym n
]

-- keys of two regions differ
pub elsewhere : (k j : Key) (r : ℕ) → (k.region == r) ≡ false → j.region ≡ r → same k j ≡ false
elsewhere k j r n e = other_region k j (rw e n)
