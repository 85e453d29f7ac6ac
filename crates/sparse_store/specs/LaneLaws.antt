-- The laws of the trait for lanes of sparse stores: each page that they tell is whole, and their counts have 64 bits.
use Rattle.std.specs.Prelude.{◌≡◌, ℕ, ◌+◌, ◌*◌, ◌/◌, ◌%◌, ◌^◌, ◌<◌, ◌≤◌, Bool, List, map, length, replicate, slice_get, Option, Some, None, sum_by}
use Rattle.std.proofs.Common.{cond, inl, inr, refl, sym, ap, subst, ◌∙◌, arith, zero-add}
use Rattle.std.specs.Option.{IfSome, option_map}
use Rattle.std.proofs.lemmas.Bool.{cases_lt, cases_Bool, cond-true, cond-false, and_left, le-ltb}
use Rattle.std.proofs.lemmas.List.{places, get_or_past}
use Rattle.std.proofs.lemmas.List.FromFn.{length-map-range_with_len, get_or-map-range_with_len}
use Rattle.std.proofs.lemmas.Nat.{mod_below, mul-le}
use Rattle.std.proofs.lemmas.Option.{slice_get-map}
use Rattle.page_base.specs.Lanes.{Origin, has_page, told_at}
use Rattle.page_base.specs.declared.layout.Layout.{Layout}
use Rattle.store_trait.specs.SmallCounts.{capped_is_small}
use Rattle.store_trait.specs.WholePages.{length-page_of}
use Rattle.file_store.specs.Parts.{PartName, PartSeen, piece_size}
use Rattle.sparse_store.specs.Files.{IsShape}
use Rattle.sparse_store.specs.InsideLaneFiles.{AreLaneFiles}
use Rattle.sparse_store.specs.SparseFiles.{file_bytes}
use Rattle.sparse_store.specs.SparseLanes.{HasWholePages, sparse_origin, bytes_in, file_among, page_of_file, sparse_told, count_of_all, sparse_seen}
use Rattle.sparse_store.specs.declared.meta.Meta.{Meta}

pub length-sparse_told : (o : Origin) (files : ℕ → Option (List ℕ)) → length (sparse_told o files) ≡ o.pages
length-sparse_told o files = length-map-range_with_len (λ p. cond (has_page o p) (page_of_file o (files (p / o.group)) p) None) 0 o.pages

pub told_at-sparse_told : (o : Origin) (files : ℕ → Option (List ℕ)) (p : ℕ) → told_at (sparse_told o files) p ≡ cond (has_page o p) (page_of_file o (files (p / o.group)) p) None
told_at-sparse_told o files p = elim (cases_lt p o.pages) [
  | inl below ↦ get_or-map-range_with_len (λ q. cond (has_page o q) (page_of_file o (files (q / o.group)) q) None) 0 o.pages p p None below (zero-add p)
  | inr above ↦ get_or_past (sparse_told o files) p None (omega (arith, length-sparse_told o files)) ∙ sym (cond-false (has_page o p) (page_of_file o (files (p / o.group)) p) None (and_left _ _ (le-ltb p o.pages above)))
]

-- a page of a file lies within it
pub page_within : (group page_size file page : ℕ) → 1 ≤ file → file ≡ group * page_size → page % group * page_size + page_size ≤ file
page_within group page_size file page some whole = elim (cases_lt 0 group) [
  | inl more ↦ omega (arith, whole, mul-le (page % group + 1) page_size group page_size (omega (arith, mod_below page group more)) (omega arith))
  | inr none ↦ absurd (let z : group ≡ 0 = omega arith in let e : file ≡ 0 * page_size = whole ∙ ap (λ (g : ℕ). g * page_size) z in omega (arith, e, some))
]

-- the bytes of a file are as many as its part has
pub whole_file : (file : ℕ) (p : PartSeen) → piece_size p.name.extent ≡ file → IfSome (told_at p.told 0) (λ bytes. length bytes ≡ piece_size p.name.extent) → IfSome (file_bytes p) (λ bytes. length bytes ≡ file)
whole_file file p size whole = elim (cases_Bool p.made) [
  | inl made ↦ subst P (sym (cond-true p.made (told_at p.told 0) zeros made)) (kept (told_at p.told 0) whole)
  | inr none ↦ subst P (sym (cond-false p.made (told_at p.told 0) zeros none)) (blank (told_at p.told 0))
]
  where
    P : Option (List ℕ) → Type 0
    P t = IfSome t (λ bytes. length bytes ≡ file)

    zeros : Option (List ℕ)
    zeros = option_map (λ bytes. replicate (piece_size p.name.extent) 0) (told_at p.told 0)

    kept : (t : Option (List ℕ)) → IfSome t (λ bytes. length bytes ≡ piece_size p.name.extent) → P t
    kept None w = tt
    kept (Some bytes) w = w ∙ size

    blank : (t : Option (List ℕ)) → P (option_map (λ bytes. replicate (piece_size p.name.extent) 0) t)
    blank None = tt
    blank (Some bytes) = grind (arith, places) ∙ size

-- and so a page of them is whole
whole_page : (o : Origin) (file : ℕ) (t : Option (List ℕ)) (page : ℕ) → page % o.group * o.page_size + o.page_size ≤ file → IfSome t (λ bytes. length bytes ≡ file) → IfSome (page_of_file o t page) (λ bytes. length bytes ≡ o.page_size)
whole_page o file None page within whole = tt
whole_page o file (Some bytes) page within whole = length-page_of o.page_size (page % o.group) bytes (omega (arith, within, whole))

module _ {P : Type 0} (seen : P → PartSeen) (whole : (x : P) (piece : ℕ) → IfSome (told_at (seen x).told piece) (λ bytes. length bytes ≡ piece_size (seen x).name.extent))
    (dir : List ℕ) (m : Meta) (layout : Layout) (region stripe : ℕ) (xs : List P) (shape : IsShape m) (cut : HasWholePages m layout) (are : AreLaneFiles dir m layout region stripe (map seen xs)) where
  -- each file of a lane is whole
  pub each_whole : (place : ℕ) → IfSome (bytes_in (slice_get (map seen xs) place)) (λ bytes. length bytes ≡ m.file)
  each_whole place = subst F (sym (slice_get-map seen xs place)) (go (slice_get xs place) refl)
    where
      F : Option PartSeen → Type 0
      F t = IfSome (bytes_in t) (λ bytes. length bytes ≡ m.file)

      go : (t : Option P) → slice_get xs place ≡ t → F (option_map seen t)
      go None e = tt
      go (Some x) e = whole_file m.file (seen x) (ap (λ (n : PartName). piece_size n.extent) (are.names place (seen x) (slice_get-map seen xs place ∙ ap (option_map seen) e))) (whole x 0)

  -- and each page that it tells
  pub pages_are_whole : (there : List Bool) (page : ℕ) → IfSome (told_at (sparse_seen (sparse_origin dir m layout region stripe there) (map seen xs)).told page) (λ bytes. length bytes ≡ layout.page_size)
  pages_are_whole there page =
      let o = sparse_origin dir m layout region stripe there in
      let files : ℕ → Option (List ℕ) = file_among o.stripes (map seen xs) in
      let F : Option (List ℕ) → Type 0 = λ t. IfSome t (λ bytes. length bytes ≡ layout.page_size) in
      subst F (sym (told_at-sparse_told o files page)) (elim (cases_Bool (has_page o page)) [
        | inl its ↦ subst F (sym (cond-true (has_page o page) (page_of_file o (files (page / o.group)) page) None its))
            (whole_page o m.file (files (page / o.group)) page (page_within o.group o.page_size m.file page shape.meta.some_file cut) (each_whole (page / o.group / o.stripes)))
        | inr other ↦ subst F (sym (cond-false (has_page o page) (page_of_file o (files (page / o.group)) page) None other)) tt
      ])

-- the count of a lane has 64 bits
pub lane_count_is_small : (parts : List PartSeen) → count_of_all parts < 2 ^ 64
lane_count_is_small parts = capped_is_small (sum_by (λ (p : PartSeen). p.count) parts)
