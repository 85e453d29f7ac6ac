-- Which regions close, by the entries.
use Rattle.std.proofs.Common.{Bool, List, [], ap, arith, false, inl, inr, refl, subst, sym, true, ℕ, ◌++◌, ◌∙◌, ◌∷◌, ◌≡◌, ◌<◌, ◌==◌, ◌≤◌, ◌||◌}
use Rattle.std.proofs.lemmas.Bool.{and_parts, cases_lt, eqb-true, false_from_ne_true, or_right}
use Rattle.std.proofs.lemmas.Option.{slice_get_past}
use Rattle.std.specs.List.{list_all, list_any}
use Rattle.histories.specs.Histories.{History, by}
use Rattle.page_model.specs.declared.entry.Entry.{Entry}
use Rattle.page_model.specs.declared.entry.Entry.TheVariants as entry
use Rattle.page_model.specs.Closings as closings
use Rattle.page_model.specs.Core.{Core, closes, is_closing, is_unmapped, unmaps}
use Rattle.page_model.specs.Setups.{Setup, regions}
use Rattle.page_model.specs.Stands.{StandsFor}
use Rattle.serial_pager.specs.Goings.{Went}
use Rattle.serial_pager.specs.Rests.{ClosesSame, IsAtRest}
use Rattle.serial_pager.specs.Seen.{StripeSeen}
use Rattle.serial_pager.specs.Unmappings.{ClosesOne}
use Rattle.serial_pager.proofs.ModelLaws.{Laws}

-- the entry begins to close region r
abbrev pub closes_region : ℕ → Entry → Bool
closes_region r (entry.Closing q) = q == r
closes_region r e = false

-- the entry begins to close no region
abbrev pub closes_nothing : Entry → Bool
closes_nothing (entry.Closing q) = false
closes_nothing e = true

or_assoc : (a b c : Bool) → (a || (b || c)) ≡ ((a || b) || c)
or_assoc true b c = refl
or_assoc false b c = refl

-- a region closes after these entries where it did before or one of them begins to close it
pub closing_by : (es : List Entry) (h : History Entry) (r : ℕ) → closings.is_closing (by 0 es ++ h) r ≡ (list_any (closes_region r) es || closings.is_closing h r)
closing_by [] h r = refl
closing_by (entry.Closing q ∷ es) h r = ap (λ b. q == r || b) (closing_by es h r) ∙ or_assoc (q == r) (list_any (closes_region r) es) (closings.is_closing h r)
closing_by (x ∷ es) h r = closing_by es h r

none_closes : (es : List Entry) (r : ℕ) → list_all closes_nothing es ≡ true → list_any (closes_region r) es ≡ false
none_closes [] r e = refl
none_closes (entry.Closing q ∷ es) r e = absurd cc
none_closes (x ∷ es) r e = none_closes es r e

-- a region that isn't there doesn't close
past_open : (c : Core) (h : History Entry) (r : ℕ) → StandsFor h c → regions c.setup ≤ r → is_closing c r ≡ false
past_open c h r st past = ap closes (slice_get_past c.regions r (omega (arith, st.count, past)))

module _ (laws : Laws) {J : Type 0} (noted : J → History Entry → Type 0) (es : List Entry) (old new : StripeSeen J) (rest : IsAtRest old.core) (w : Went 0 noted es old new) where
  -- so a region closes in the stripe
  pub closes_by : (r : ℕ) → r < regions old.core.setup → is_closing new.core r ≡ (list_any (closes_region r) es || is_closing old.core r)
  closes_by r lt =
      let h = rest.history in
      let before = (laws.agree.regions h old.core r rest.stands lt).closing in
      let after = (laws.agree.regions (by 0 es ++ h) new.core r (w.stands h rest.stands) (subst (λ (s : Setup). r < regions s) (sym w.setup) lt)).closing in
      after ∙ (closing_by es h r ∙ ap (λ b. list_any (closes_region r) es || b) (sym before))

  pub closes_same : list_all closes_nothing es ≡ true → ClosesSame old.core new.core
  closes_same none r = elim (cases_lt r (regions old.core.setup)) [
    | inl lt ↦ closes_by r lt ∙ ap (λ b. b || is_closing old.core r) (none_closes es r none)
    | inr past ↦
        past_open new.core (by 0 es ++ rest.history) r (w.stands rest.history rest.stands) (subst (λ (s : Setup). regions s ≤ r) (sym w.setup) past)
        ∙ sym (past_open old.core rest.history r rest.stands past)
  ]

-- ---- unmapped regions

-- the entry unmaps region r
abbrev pub unmaps_region : ℕ → Entry → Bool
unmaps_region r (entry.Unmapped q) = q == r
unmaps_region r e = false

-- the entry unmaps no region
abbrev pub unmaps_nothing : Entry → Bool
unmaps_nothing (entry.Unmapped q) = false
unmaps_nothing e = true

unmapped_by : (es : List Entry) (h : History Entry) (r : ℕ) → closings.is_unmapped (by 0 es ++ h) r ≡ (list_any (unmaps_region r) es || closings.is_unmapped h r)
unmapped_by [] h r = refl
unmapped_by (entry.Unmapped q ∷ es) h r = ap (λ b. q == r || b) (unmapped_by es h r) ∙ or_assoc (q == r) (list_any (unmaps_region r) es) (closings.is_unmapped h r)
unmapped_by (x ∷ es) h r = unmapped_by es h r

none_unmaps : (es : List Entry) (r : ℕ) → list_all unmaps_nothing es ≡ true → list_any (unmaps_region r) es ≡ false
none_unmaps [] r e = refl
none_unmaps (entry.Unmapped q ∷ es) r e = absurd cc
none_unmaps (x ∷ es) r e = none_unmaps es r e

-- a region that isn't there isn't unmapped
past_mapped : (c : Core) (h : History Entry) (r : ℕ) → StandsFor h c → regions c.setup ≤ r → is_unmapped c r ≡ false
past_mapped c h r st past = ap unmaps (slice_get_past c.regions r (omega (arith, st.count, past)))

module _ (laws : Laws) {J : Type 0} (noted : J → History Entry → Type 0) (es : List Entry) (old new : StripeSeen J) (rest : IsAtRest old.core) (w : Went 0 noted es old new) (r : ℕ) (lt : r < regions old.core.setup) where
  pub unmaps_by : is_unmapped new.core r ≡ (list_any (unmaps_region r) es || is_unmapped old.core r)
  unmaps_by =
      let h = rest.history in
      let before = (laws.agree.regions h old.core r rest.stands lt).unmapped in
      let after = (laws.agree.regions (by 0 es ++ h) new.core r (w.stands h rest.stands) (subst (λ (s : Setup). r < regions s) (sym w.setup) lt)).unmapped in
      after ∙ (unmapped_by es h r ∙ ap (λ b. list_any (unmaps_region r) es || b) (sym before))

  pub unmaps_same : list_all unmaps_nothing es ≡ true → is_unmapped new.core r ≡ is_unmapped old.core r
  unmaps_same none = unmaps_by ∙ ap (λ b. b || is_unmapped old.core r) (none_unmaps es r none)

-- ---- with one region that may close

-- the entry begins to close no other region than this
abbrev pub closes_only : ℕ → Entry → Bool
closes_only r (entry.Closing q) = q == r
closes_only r e = true

none_other : (es : List Entry) (r q : ℕ) → (q ≡ r → ⊥) → list_all (closes_only r) es ≡ true → list_any (closes_region q) es ≡ false
none_other [] r q ne e = refl
none_other (entry.Closing p ∷ es) r q ne e =
    let parts = and_parts (p == r) (list_all (closes_only r) es) e in
    let apart : (p == q) ≡ false = false_from_ne_true (p == q) (λ t. ne (sym (eqb-true p q t) ∙ eqb-true p r parts.0)) in
    ap (λ b. b || list_any (closes_region q) es) apart ∙ none_other es r q ne parts.1
none_other (x ∷ es) r q ne e = none_other es r q ne e

module _ (laws : Laws) {J : Type 0} (noted : J → History Entry → Type 0) (es : List Entry) (old new : StripeSeen J) (rest : IsAtRest old.core) (w : Went 0 noted es old new) where
  pub closes_one : (r : ℕ) → r < regions old.core.setup → list_all (closes_only r) es ≡ true → ClosesOne r old.core new.core
  closes_one r lt only = record {
    others = λ q ne. elim (cases_lt q (regions old.core.setup)) [
      | inl below ↦ closes_by laws noted es old new rest w q below ∙ ap (λ b. b || is_closing old.core q) (none_other es r q ne only)
      | inr past ↦
          past_open new.core (by 0 es ++ rest.history) q (w.stands rest.history rest.stands) (subst (λ (s : Setup). regions s ≤ q) (sym w.setup) past)
          ∙ sym (past_open old.core rest.history q rest.stands past)
    ];
    stays = λ closing. closes_by laws noted es old new rest w r lt ∙ (ap (λ b. list_any (closes_region r) es || b) closing ∙ or_right (list_any (closes_region r) es) true refl);
    gone = λ q gone. elim (cases_lt q (regions old.core.setup)) [
      | inl below ↦ unmaps_by laws noted es old new rest w q below ∙ (ap (λ b. list_any (unmaps_region q) es || b) gone ∙ or_right (list_any (unmaps_region q) es) true refl)
      | inr past ↦ absurd (let mapped = past_mapped old.core rest.history q rest.stands past in let no : true ≡ false = sym gone ∙ mapped in cc)
    ];
  }
