-- Where the pages of a lane lie in its files.
use Rattle.std.proofs.Common.{◌≡◌, inl, inr, ℕ, ◌*◌, ◌/◌, ◌%◌, ◌<◌, Bool, true, List, length, refl, ap, subst, ◌∙◌, arith}
use Rattle.std.proofs.lemmas.Bool.{cases_lt, and_parts, eqb-true, ltb-true}
use Rattle.std.proofs.lemmas.Nat.{div-add-mod', mul-le}
use Rattle.std.proofs.Math.Nat.{mul-div_cancel}
use Rattle.page_base.specs.Lanes.{has_page}
use Rattle.page_base.specs.declared.layout.Layout.{Layout}
use Rattle.file_store.specs.Parts.{PartSeen}
use Rattle.sparse_store.specs.Files.{IsShape, file_count}
use Rattle.sparse_store.specs.InsideLaneFiles.{AreLaneFiles, IsPagePlace}
use Rattle.sparse_store.specs.LaneLaws.{page_within}
use Rattle.sparse_store.specs.SparseLanes.{HasWholePages, sparse_origin}
use Rattle.sparse_store.specs.declared.meta.Meta.{Meta}

-- n groups have numbers below n
pub group_below : (page group n : ℕ) → page < n * group → page / group < n
group_below page group n below = elim (cases_lt (page / group) n) [
  | inl h ↦ h
  | inr far ↦ absurd (omega (arith, below, mul-le n group (page / group) group far (omega arith), div-add-mod' page group))
]

module _ (m : Meta) (layout : Layout) (shape : IsShape m) (cut : HasWholePages m layout) where
  -- so many pages as all files have
  pub pages_of_files : m.size / layout.page_size ≡ file_count m * (m.file / layout.page_size)
  pages_of_files =
      let size = layout.page_size in
      let some : 0 < size = omega (arith, layout.large_pages) in
      let whole : m.size ≡ file_count m * (m.file / size) * size = shape.whole_files ∙ ap (λ (f : ℕ). file_count m * f) cut ∙ omega arith in
      ap (λ (n : ℕ). n / size) whole ∙ mul-div_cancel (file_count m * (m.file / size)) some

  module _ (dir : List ℕ) (region stripe : ℕ) (parts : List PartSeen) (are : AreLaneFiles dir m layout region stripe parts) where
    -- the file of a lane's page is one of the lane's
    pub page_is_placed : (there : List Bool) (off : ℕ) → has_page (sparse_origin dir m layout region stripe there) (off / layout.page_size) ≡ true
        → IsPagePlace (sparse_origin dir m layout region stripe there) m (length parts) off (off / layout.page_size / (m.file / layout.page_size) / layout.stripes) (off / layout.page_size % (m.file / layout.page_size) * layout.page_size)
    page_is_placed there off has =
        let page = off / layout.page_size in
        let group = m.file / layout.page_size in
        let two = and_parts _ _ has in
        let near : page < file_count m * group = subst (λ (n : ℕ). page < n) pages_of_files (ltb-true page (m.size / layout.page_size) two.0) in
        record {
          place_is = refl;
          start_is = refl;
          below = are.all (page / group) (group_below page group (file_count m) near) (eqb-true _ _ two.1);
          within = page_within group layout.page_size m.file page shape.meta.some_file cut;
        }
