-- What follows for the regions of a table: their sizes, and that no two lie in one file.
use Rattle.std.proofs.Common.{◌≡◌, ◌⊎◌, inl, inr, ℕ, zero, suc, ◌+◌, ◌*◌, ◌/◌, ◌%◌, ◌<◌, ◌≤◌, ◌==◌, nat_lt, Bool, true, false, not, ◌&&◌, ◌||◌, if◌then◌else◌, List, [], ◌∷◌, ◌++◌, take, length, slice_get, Option, Some, None, is_none, refl, sym, ap, subst, ◌∙◌, append_assoc, append-nil, arith}
use Rattle.std.specs.List.{list_any, list_all}
use Rattle.std.specs.Str.{bytes_eq}
use Rattle.std.proofs.lemmas.Bool.{cases_lt, and_parts, ltb-true, lt-ltb, eqb-true, both_ways}
use Rattle.std.proofs.lemmas.Nat.{div-add-mod'}
use Rattle.std.proofs.lemmas.Slice.Eq.{bytes_eq-Decides}
use Rattle.page_base.specs.Backings.{Backing, in_memory, in_file, in_files}
use Rattle.region_table.specs.declared.spec.RegionFault.{RegionFault}
use Rattle.region_table.specs.Regions.{NamedRegion, TableSeen, page_count}
use Rattle.region_table.specs.Rules.{leads_into, has_good_length, has_whole_files, is_whole, shares_store, region_fault, keeps_rules}
use Rattle.region_lanes.specs.Laws.{AreApart}
use Rattle.region_lanes.specs.Regions.{is_folder, has_no_folders}
use Rattle.region_lanes.specs.InsideOpened.{HasGoodSize, AreGood}
use Rattle.region_lanes.proofs.Lists.{any_false, all_true, take_at}

abbrev behind : ℕ → List NamedRegion → TableSeen
behind page_size before = record { page_size = page_size; regions = before }

-- a chain of tests that clears a region found the second one false, the third one true and the fourth one false
record Cleared (second third fourth : Bool) : Type 0 where
  second_is : second ≡ false
  third_is : third ≡ true
  fourth_is : fourth ≡ false

all_clear : (first second third fourth : Bool) (a b c d : RegionFault) → is_none (if first then Some a else (if second then Some b else (if not third then Some c else (if fourth then Some d else None)))) ≡ true → Cleared second third fourth
all_clear true second third fourth a b c d h = absurd (cc)
all_clear false true third fourth a b c d h = absurd (cc)
all_clear false false false fourth a b c d h = absurd (cc)
all_clear false false true true a b c d h = absurd (cc)
all_clear false false true false a b c d h = record { second_is = refl; third_is = refl; fourth_is = refl }

abbrev Clear : ℕ → List NamedRegion → NamedRegion → Type 0
Clear z before r =
    Cleared (list_any (λ (s : NamedRegion). shares_store s.backing r.backing) before) (has_good_length z r) (nat_lt 1048576 (page_count (behind z before) + r.size / z))

clear_at : (z : ℕ) (before rs : List NamedRegion) (i : ℕ) (r : NamedRegion) → keeps_rules z before rs ≡ true → slice_get rs i ≡ Some r → Clear z (before ++ take i rs) r
clear_at z before [] i r kept here = absurd (cc)
clear_at z before (s ∷ rs) zero r kept here =
    let same : s ≡ r = cc in
    let parts = and_parts (is_none (region_fault (behind z before) s)) (keeps_rules z (before ++ s ∷ []) rs) kept in
    subst (λ (b : List NamedRegion). Clear z b r) (sym (append-nil before))
    (all_clear (list_any (λ (t : NamedRegion). bytes_eq t.name r.name) before) (list_any (λ (t : NamedRegion). shares_store t.backing r.backing) before) (has_good_length z r) (nat_lt 1048576 (page_count (behind z before) + r.size / z)) _ _ _ _
    (subst (λ (q : NamedRegion). is_none (region_fault (behind z before) q) ≡ true) same parts.0))
clear_at z before (s ∷ rs) (suc i) r kept here =
    let parts = and_parts (is_none (region_fault (behind z before) s)) (keeps_rules z (before ++ s ∷ []) rs) kept in
    subst (λ (b : List NamedRegion). Clear z b r) (append_assoc before (s ∷ []) (take i rs)) (clear_at z (before ++ s ∷ []) rs i r parts.1 here)

shares_itself : (path : List ℕ) (a b : Backing) → a ≡ in_file path → b ≡ in_file path → shares_store a b ≡ true
unfolding shares_store
shares_itself path a b is also = rw (is, also) (ap (λ (x : Bool). x || (false || false)) ((bytes_eq-Decides path path).1 refl))

pub rules_apart : (z : ℕ) (regions : List NamedRegion) → keeps_rules z [] regions ≡ true → AreApart regions
rules_apart z regions kept q r g h path at_q at_r in_g in_h = elim (cases_lt q r) [
  | inl below ↦ absurd (never q r g h below at_q at_r in_g in_h)
  | inr past ↦ elim (cases_lt r q) [
    | inl above ↦ absurd (never r q h g above at_r at_q in_h in_g)
    | inr same ↦ omega (arith, past, same)
  ]
]
  where
    never : (q r : ℕ) (g h : NamedRegion) → q < r → slice_get regions q ≡ Some g → slice_get regions r ≡ Some h → g.backing ≡ in_file path → h.backing ≡ in_file path → ⊥
    never q r g h below at_q at_r in_g in_h =
        let clear = clear_at z [] regions r h kept at_r in
        both_ways (shares_store g.backing h.backing) (any_false (λ (s : NamedRegion). shares_store s.backing h.backing) (take r regions) q g clear.second_is (take_at regions r q g below at_q)) (shares_itself path g.backing h.backing in_g in_h)

good_size : (z : ℕ) (before : List NamedRegion) (g : NamedRegion) → Clear z before g → HasGoodSize z g
unfolding has_good_length
good_size z before g clear =
    let whole = and_parts (is_whole z g.size) (has_whole_files z g.size g.backing) clear.third_is in
    let parts = and_parts (nat_lt 0 g.size) (g.size % z == 0) whole.0 in
    record {
      some = ltb-true 0 g.size parts.0;
      whole = omega (arith, div-add-mod' g.size z, eqb-true (g.size % z) 0 parts.1);
      few = elim (cases_lt 1048576 (page_count (behind z before) + g.size / z)) [
        | inl many ↦ absurd (both_ways _ clear.fourth_is (lt-ltb 1048576 (page_count (behind z before) + g.size / z) many))
        | inr few ↦ omega (arith, few)
      ];
    }

pub rules_good : (z : ℕ) (regions : List NamedRegion) → keeps_rules z [] regions ≡ true → has_no_folders regions ≡ true → AreGood z regions
rules_good z regions kept none = record {
  size = λ r g here. good_size z (take r regions) g (clear_at z [] regions r g kept here);
  built = λ r g here. eq_false (is_folder g.backing) (all_true (λ (x : NamedRegion). not (is_folder x.backing)) regions r g none here);
  apart = rules_apart z regions kept;
}
  where
    eq_false : (b : Bool) → not b ≡ true → b ≡ false
    eq_false true e = absurd (cc)
    eq_false false e = refl
