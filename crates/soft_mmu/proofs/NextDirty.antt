-- A search through the regions of a table finds the next dirty page, in order of key.
use Rattle.std.proofs.Common.{◌≡◌, ℕ, ◌+◌, ◌<◌, ◌≤◌, true, false, List, [], length, refl, ap, ◌∙◌, inl, inr, arith, Option, Some, None}
use Rattle.std.specs.Prelude.{slice_index_or}
use Rattle.std.proofs.lemmas.List.{get_or_past}
use Rattle.std.proofs.lemmas.Bool.{cases_Bool, false_from_ne_true}
use Rattle.std.proofs.lemmas.Bool.Decides.{nat_tests}
use Rattle.page_base.specs.KeyOrder.{is_below, is_past}
use Rattle.page_base.specs.declared.keys.Key.{Key}
use Rattle.soft_mmu.specs.declared.entry.PageEntry.{PageEntry}
use Rattle.soft_mmu.specs.declared.entry.PageEntry.TheVariants.{Absent}
use Rattle.soft_mmu.specs.Entries.{is_dirty, table_entry, IsNextDirty}
use Rattle.soft_mmu.specs.InsideLeaves.{IsFirstDirty, NoneDirtyFrom, place_behind}

abbrev pub at : ℕ → ℕ → Key
at region page = record { region = region; page = page }

-- a search past `after` has come to a place: what lies there or behind is past, and what is past and lies before is clean
pub record HasCome (table : List (List PageEntry)) (after : Option Key) (region page : ℕ) : Type 0 where
  pub past : (later : ℕ) → page ≤ later → is_past after (at region later) ≡ true
  pub clean : (key : Key) → is_past after key ≡ true → is_below key (at region page) ≡ true → is_dirty (table_entry table key) ≡ false

-- a key of the same region that comes no earlier has no lower page
same_region : (key : Key) (region page : ℕ) → is_below key (at region page) ≡ false → is_below key (at (region + 1) 0) ≡ true → (key.region ≡ region) × (page ≤ key.page)
same_region key region page not_low low = (grind (arith, nat_tests), grind (arith, nat_tests))

between : (key : Key) (region page found : ℕ) → is_below key (at region page) ≡ false → is_below key (at region found) ≡ true → (key.region ≡ region) × (page ≤ key.page) × (key.page < found)
between key region page found not_low low = (grind (arith, nat_tests), grind (arith, nat_tests), grind (arith, nat_tests))

no_lower : (key : Key) (region page : ℕ) → is_below key (at region page) ≡ false → region ≤ key.region
no_lower key region page not_low = grind (arith, nat_tests)

past_region : (after : Option Key) (region page later : ℕ) → is_past after (at region page) ≡ true → is_past after (at (region + 1) later) ≡ true
past_region None region page later is = refl
past_region (Some key) region page later is = grind (arith, nat_tests)

-- ---- where it starts

pub starts : (table : List (List PageEntry)) (after : Option Key) → HasCome table after (place_behind after).0 (place_behind after).1
starts table None = record {
  past = λ later more. refl;
  clean = λ key is before. absurd (nothing key before);
}
  where
    nothing : (key : Key) → is_below key (at 0 0) ≡ true → ⊥
    nothing key before = grind (arith, nat_tests)
starts table (Some after) = record {
  past = λ later more. behind after later more;
  clean = λ key is before. absurd (nothing after key is before);
}
  where
    behind : (key : Key) (later : ℕ) → key.page + 1 ≤ later → is_below key (at key.region later) ≡ true
    behind key later more = grind (arith, nat_tests)

    nothing : (first key : Key) → is_below first key ≡ true → is_below key (at first.region (first.page + 1)) ≡ true → ⊥
    nothing first key is before = grind (arith, nat_tests)

-- ---- how it goes on

module _ (table : List (List PageEntry)) (after : Option Key) (region page : ℕ) (come : HasCome table after region page) where
  -- the entry of a key of this region
  here : (key : Key) → key.region ≡ region → is_dirty (table_entry table key) ≡ is_dirty (slice_index_or (slice_index_or table region []) key.page Absent)
  here key is = ap (λ r. is_dirty (slice_index_or (slice_index_or table r []) key.page Absent)) is

  pub goes_on : NoneDirtyFrom (slice_index_or table region []) page → HasCome table after (region + 1) 0
  goes_on none = record {
    past = λ later more. past_region after region page later (come.past page (omega arith));
    clean =
        λ key is before.
        elim (cases_Bool (is_below key (at region page))) [
          | inl low ↦ come.clean key is low
          | inr not_low ↦ let same = same_region key region page not_low before in here key same.0 ∙ none key.page same.1
        ];
  }

  pub finds : (found : ℕ) → IsFirstDirty (slice_index_or table region []) page found → IsNextDirty table after (at region found)
  finds found first = record {
    dirty = first.dirty;
    past = come.past found first.past;
    least =
        λ other dirty is.
        false_from_ne_true (is_below other (at region found)) (λ before.
        let clean : is_dirty (table_entry table other) ≡ false =
        elim (cases_Bool (is_below other (at region page))) [
          | inl low ↦ come.clean other is low
          | inr not_low ↦ let same = between other region page found not_low before in here other same.0 ∙ first.before other.page same.1 same.2
        ] in
        cc);
  }

  pub ends : length table ≤ region → (key : Key) → is_past after key ≡ true → is_dirty (table_entry table key) ≡ false
  ends end key is = elim (cases_Bool (is_below key (at region page))) [
    | inl low ↦ come.clean key is low
    | inr not_low ↦
        let later = no_lower key region page not_low in
        ap (λ entries. is_dirty (slice_index_or entries key.page Absent)) (get_or_past table key.region [] (omega arith))
  ]
