-- A region's pages by their numbers: the leaf of a page, and what stays as it was where one entry is set.
use Rattle.std.proofs.Common.{◌≡◌, ℕ, ◌+◌, ◌-◌, ◌*◌, ◌/◌, ◌%◌, ◌<◌, ◌≤◌, Bool, true, false, cond, refl, List, [], ◌∷◌, ◌++◌, length, replicate, zero, suc, append-nil, arith, ap, ◌∙◌, sym}
use Rattle.std.specs.Prelude.{slice_index_or, slice_set, count_by}
use Rattle.std.proofs.lemmas.List.{length-set, length-replicate, get_or_read}
use Rattle.std.proofs.lemmas.List.Sums.{sum_by-set, sum_by-cons, get_or-le-sum_by}
use mir.Val.{bool_byte}
use Rattle.page_base.specs.declared.limits.TheConstants.{MOST_PAGES}
use Rattle.soft_mmu.specs.declared.entry.PageEntry.{PageEntry}
use Rattle.soft_mmu.specs.declared.entry.PageEntry.TheVariants.{Absent}
use Rattle.soft_mmu.specs.Entries.{is_present, is_dirty}
use Rattle.soft_mmu.specs.InsideLeaves.{entries_of, AreLeavesOf, IsRegion}
use Rattle.soft_mmu.proofs.Leaves.{leaf_within, place_within, entry_at, set_page, leaves_stay, full_leaves, full_entries}

-- what a test of an entry adds to a count
pub added : (p : PageEntry → Bool) (number : ℕ) (passes : Bool) (entry : PageEntry) → number ≡ bool_byte passes → passes ≡ p entry
    → number ≡ cond (p entry) 1 0
added p number passes entry is tested = is ∙ (byte passes ∙ ap (λ b. cond b 1 0) tested)
  where
    byte : (b : Bool) → bool_byte b ≡ cond b 1 0
    byte true = refl
    byte false = refl

-- a page that passes is counted
counted : (p : PageEntry → Bool) (entries : List PageEntry) (page count : ℕ) → page < length entries → count ≡ count_by p entries
    → cond (p (slice_index_or entries page Absent)) 1 0 ≤ count
counted p entries page count within is = omega (arith, get_or-le-sum_by (λ (e : PageEntry). cond (p e) 1 0) entries page Absent within)

-- where an entry is set, one less is counted for the old one, and one more for the new one
recounted : (p : PageEntry → Bool) (entries : List PageEntry) (page : ℕ) (entry : PageEntry) (count : ℕ) → page < length entries → count ≡ count_by p entries
    → count - cond (p (slice_index_or entries page Absent)) 1 0 + cond (p entry) 1 0 ≡ count_by p (slice_set entries page entry)
recounted p entries page entry count within is =
    omega (arith, sum_by-set (λ (e : PageEntry). cond (p e) 1 0) entries page entry Absent within, counted p entries page count within is)

module _ (leaves : List (List PageEntry)) (page : ℕ) (are : AreLeavesOf (length (entries_of leaves)) leaves) (within : page < length (entries_of leaves)) where
  abbrev leaf : List PageEntry
  leaf = slice_index_or leaves (page / 512) []

  abbrev pages : ℕ
  pages = length (entries_of leaves)

  split : 512 * (page / 512) + page % 512 ≡ page
  split = omega arith

  small : page % 512 < 512
  small = omega arith

  inside : 512 * (page / 512) + page % 512 < pages
  inside = omega (arith, split)

  pub leaf_of_page : page / 512 < length leaves
  leaf_of_page = leaf_within pages leaves (page / 512) (page % 512) are inside

  -- what indexing gives is the page's leaf
  pub leaf_read : (read : List PageEntry) → read ≡ slice_index_or leaves (page / 512) read → read ≡ leaf
  leaf_read read is = get_or_read leaves (page / 512) read leaf_of_page is []

  pub place_of_page : page % 512 < length leaf
  place_of_page = place_within pages leaves (page / 512) (page % 512) are small inside

  pub entry_of_page : slice_index_or leaf (page % 512) Absent ≡ slice_index_or (entries_of leaves) page Absent
  entry_of_page = entry_at pages leaves (page / 512) (page % 512) are small inside ∙ ap (λ n. slice_index_or (entries_of leaves) n Absent) split

  pub counted_of_page : (p : PageEntry → Bool) (count : ℕ) → count ≡ count_by p (entries_of leaves)
      → cond (p (slice_index_or leaf (page % 512) Absent)) 1 0 ≤ count
  counted_of_page p count is = rw entry_of_page (counted p (entries_of leaves) page count within is)

  module _ (entry : PageEntry) where
    abbrev after : List (List PageEntry)
    after = slice_set leaves (page / 512) (slice_set leaf (page % 512) entry)

    pub set_of_page : entries_of after ≡ slice_set (entries_of leaves) page entry
    set_of_page = set_page pages leaves (page / 512) (page % 512) entry are small inside ∙ ap (λ n. slice_set (entries_of leaves) n entry) split

    pub region_with : (present dirty : ℕ) → IsRegion leaves present dirty
        → IsRegion after
        (present - cond (is_present (slice_index_or leaf (page % 512) Absent)) 1 0 + cond (is_present entry) 1 0)
        (dirty - cond (is_dirty (slice_index_or leaf (page % 512) Absent)) 1 0 + cond (is_dirty entry) 1 0)
    region_with present dirty region =
        let same : length (entries_of after) ≡ pages = ap length set_of_page ∙ length-set (entries_of leaves) page entry in
        let few = region.few in
        record {
          cut = rw same (leaves_stay pages leaves (page / 512) (slice_set leaf (page % 512) entry) are (length-set leaf (page % 512) entry));
          few = omega arith;
          present = rw (entry_of_page, set_of_page) (recounted is_present (entries_of leaves) page entry present within region.present);
          dirty = rw (entry_of_page, set_of_page) (recounted is_dirty (entries_of leaves) page entry dirty within region.dirty);
        }

-- ---- no page is present

none_counted : (p : PageEntry → Bool) (n : ℕ) → p Absent ≡ false → 0 ≡ count_by p (replicate n Absent)
none_counted p zero fails = refl
none_counted p (suc n) fails =
    let rest = none_counted p n fails in
    let here = sum_by-cons (λ (e : PageEntry). cond (p e) 1 0) Absent (replicate n Absent) in
    let nothing : cond {A = ℕ} (p Absent) 1 0 ≡ 0 = ap (λ b. cond {A = ℕ} b 1 0) fails in
    omega (arith, rest, here, nothing)

-- the leaves of so many pages, none of which is present
pub record AbsentLeaves (leaves : List (List PageEntry)) (number : ℕ) : Type 0 where
  pub cut : AreLeavesOf number leaves
  pub absent : entries_of leaves ≡ replicate number Absent

pub absent_full : (leaves : List (List PageEntry)) (k number : ℕ) → leaves ≡ replicate k (replicate 512 Absent) → number ≡ 512 * k → AbsentLeaves leaves number
absent_full leaves k number is all =
    let none : leaves ≡ replicate k (replicate 512 Absent) ++ [] = is ∙ sym (append-nil (replicate k (replicate 512 Absent))) in
    record {
      cut = rw none (full_leaves k 0 [] number (omega arith) refl);
      absent = rw none (full_entries k [] 0 number refl (omega arith));
    }

pub absent_rest : (leaves : List (List PageEntry)) (k rest number : ℕ) → leaves ≡ replicate k (replicate 512 Absent) ++ replicate rest Absent ∷ []
    → number ≡ 512 * k + rest → 0 < rest → rest < 512 → AbsentLeaves leaves number
absent_rest leaves k rest number is all some small = record {
  cut = rw is (full_leaves k rest (replicate rest Absent ∷ []) number all (some, length-replicate rest Absent ∙ omega arith, omega arith));
  absent = rw is (full_entries k (replicate rest Absent ∷ []) rest number (append-nil (replicate rest Absent)) all);
}

pub absent_region : (leaves : List (List PageEntry)) (number : ℕ) → number ≤ MOST_PAGES → AbsentLeaves leaves number → IsRegion leaves 0 0
absent_region leaves number few made =
    let same : length (entries_of leaves) ≡ number = ap length made.absent ∙ length-replicate number Absent in
    record {
      cut = rw same made.cut;
      few = omega arith;
      present = rw made.absent (none_counted is_present number refl);
      dirty = rw made.absent (none_counted is_dirty number refl);
    }
