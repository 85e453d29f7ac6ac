-- A search through the leaves of a region finds the first dirty page, place by place.
use Rattle.std.proofs.Common.{◌≡◌, ℕ, ◌+◌, ◌-◌, ◌*◌, ◌<◌, ◌≤◌, Bool, true, false, refl, List, [], length, arith, ap, ◌∙◌, sym, inl, inr}
use Rattle.std.specs.Prelude.{slice_index_or}
use Rattle.std.proofs.lemmas.List.{get_or_past}
use Rattle.std.proofs.lemmas.Bool.{cases_lt}
use Rattle.soft_mmu.specs.declared.entry.PageEntry.{PageEntry}
use Rattle.soft_mmu.specs.declared.entry.PageEntry.TheVariants.{Absent}
use Rattle.soft_mmu.specs.Entries.{is_dirty}
use Rattle.soft_mmu.specs.InsideLeaves.{entries_of, AreLeavesOf, IsFirstDirty, NoneDirtyFrom}
use Rattle.soft_mmu.proofs.Leaves.{entry_at, page_within, leaf_small, leaves_most}

abbrev pub dirty_at : List PageEntry → ℕ → Bool
dirty_at entries place = is_dirty (slice_index_or entries place Absent)

-- a page past the end isn't dirty
pub clean_past : (entries : List PageEntry) (place : ℕ) → length entries ≤ place → is_dirty (slice_index_or entries place Absent) ≡ false
clean_past entries place past = rw (get_or_past entries place Absent past) refl

pub dirty_within : (entries : List PageEntry) (place : ℕ) → is_dirty (slice_index_or entries place Absent) ≡ true → place < length entries
dirty_within entries place dirty = elim (cases_lt place (length entries)) [
  | inl lt ↦ lt
  | inr past ↦ let clean = clean_past entries place past in cc
]

module _ (leaves : List (List PageEntry)) (are : AreLeavesOf (length (entries_of leaves)) leaves) (at : ℕ) where
  abbrev leaf : List PageEntry
  leaf = slice_index_or leaves at []

  abbrev pages : ℕ
  pages = length (entries_of leaves)

  -- what is said of a leaf's places is said of their pages
  clean_at : (place : ℕ) → place < 512 → is_dirty (slice_index_or leaf place Absent) ≡ false
      → is_dirty (slice_index_or (entries_of leaves) (512 * at + place) Absent) ≡ false
  clean_at place small clean = elim (cases_lt (512 * at + place) pages) [
    | inl lt ↦ ap is_dirty (sym (entry_at pages leaves at place are small lt)) ∙ clean
    | inr past ↦ clean_past (entries_of leaves) (512 * at + place) past
  ]

  module _ (from place : ℕ) (small : place < 512) (come : from ≤ 512 * at + place)
      (none : (k : ℕ) → from ≤ k → k < 512 * at + place → is_dirty (slice_index_or (entries_of leaves) k Absent) ≡ false) where
    pub found_page : (found : ℕ) → IsFirstDirty leaf place found → 512 * at + found < pages
    found_page found first = page_within pages leaves at found are (dirty_within leaf found first.dirty)

    pub found_first : (found : ℕ) → IsFirstDirty leaf place found → IsFirstDirty (entries_of leaves) from (512 * at + found)
    found_first found first =
        let within : found < length leaf = dirty_within leaf found first.dirty in
        let most = leaf_small pages leaves at are in
        let past = first.past in
        record {
          dirty = ap is_dirty (sym (entry_at pages leaves at found are (omega arith) (found_page found first))) ∙ first.dirty;
          past = omega arith;
          before =
              λ k later earlier.
              elim (cases_lt k (512 * at + place)) [
                | inl lt ↦ none k later lt
                | inr ge ↦
                    let is : 512 * at + (k - 512 * at) ≡ k = omega arith in
                    rw is at (clean_at (k - 512 * at) (omega arith) (first.before (k - 512 * at) (omega arith) (omega arith)))
              ];
        }

    pub none_more : NoneDirtyFrom leaf place → (k : ℕ) → from ≤ k → k < 512 * (at + 1) + 0 → is_dirty (slice_index_or (entries_of leaves) k Absent) ≡ false
    none_more clean k later earlier = elim (cases_lt k (512 * at + place)) [
      | inl lt ↦ none k later lt
      | inr ge ↦
          let is : 512 * at + (k - 512 * at) ≡ k = omega arith in
          rw is at (clean_at (k - 512 * at) (omega arith) (clean (k - 512 * at) (omega arith)))
    ]

    pub none_at_all : length leaves ≤ at → NoneDirtyFrom (entries_of leaves) from
    none_at_all end = λ k later. elim (cases_lt k (512 * at + place)) [
      | inl lt ↦ none k later lt
      | inr ge ↦ let most = leaves_most pages leaves are in clean_past (entries_of leaves) k (omega arith)
    ]
