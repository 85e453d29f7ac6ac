-- What the lanes of a split tell, by the store's contents.
use Rattle.std.proofs.Common.{◌≡◌, inl, inr, ℕ, zero, suc, ◌+◌, ◌*◌, ◌/◌, ◌%◌, ◌<◌, true, cond, List, map, length, take, drop, slice_get, Option, Some, None, refl, sym, ap, subst, ◌∙◌, arith, zero-add}
use Rattle.std.specs.Option.{IfSome, option_map}
use Rattle.std.specs.List.{range_with_len}
use Rattle.std.proofs.lemmas.Bool.{cases_Bool, cond-false, and_parts, eqb-true, ltb-true}
use Rattle.std.proofs.lemmas.List.{ext_get_or}
use Rattle.std.proofs.lemmas.List.FromFn.{length-map-range_with_len, get_or-map-range_with_len}
use Rattle.std.proofs.lemmas.Option.{slice_get-map}
use Rattle.page_base.specs.Lanes.{Origin, LaneSeen, has_page, told_at}
use Rattle.page_base.specs.declared.layout.Layout.{Layout}
use Rattle.store_trait.specs.Memory.{told_by, page_bytes}
use Rattle.file_store.specs.Parts.{PartName, PartSeen, piece_size}
use Rattle.sparse_store.specs.Contents.{contents_of}
use Rattle.sparse_store.specs.Files.{IsShape, file_count}
use Rattle.sparse_store.specs.InsideStores.{AreFiles}
use Rattle.sparse_store.specs.Joins.{AreOfOneStore}
use Rattle.sparse_store.specs.LaneLaws.{whole_file, page_within, length-sparse_told, told_at-sparse_told}
use Rattle.sparse_store.specs.SparseFiles.{file_bytes}
use Rattle.sparse_store.specs.SparseLanes.{there_in, HasWholePages, bytes_in, file_among, page_of_file, sparse_told}
use Rattle.sparse_store.specs.Splits.{dealt_to, split_origin, split_seen, lanes_seen, TellPages}
use Rattle.sparse_store.specs.declared.meta.Meta.{Meta}
use Rattle.sparse_store.proofs.Dealing.{there, number_is, dealt_here, dealt_map}
use Rattle.sparse_store.proofs.Joined.{file_in, page_in}
use Rattle.sparse_store.proofs.LanePages.{group_below, pages_of_files}
use Rattle.sparse_store.proofs.PartLists.{some_is, got_map}

pub got_range : (k n s x : ℕ) → slice_get (range_with_len k n) s ≡ Some x → (x ≡ k + s) × (s < n)
got_range k zero s x got = absurd (cc)
got_range k (suc n) zero x got = (sym (some_is got) ∙ (let e : k ≡ k + 0 = omega arith in e), omega arith)
got_range k (suc n) (suc s) x got =
    let rest = got_range (k + 1) n s x got in
    (omega (arith, rest.0), omega (arith, rest.1))

module _ {P : Type 0} (seen : P → PartSeen) (whole : (x : P) (piece : ℕ) → IfSome (told_at (seen x).told piece) (λ bytes. length bytes ≡ piece_size (seen x).name.extent))
    (dir : List ℕ) (m : Meta) (layout : Layout) (region : ℕ) (xs : List P) (shape : IsShape m) (cut : HasWholePages m layout) (files : AreFiles seen dir m xs) where
  each_file : (k : ℕ) (q : PartSeen) → slice_get (map seen xs) k ≡ Some q → IfSome (file_bytes q) (λ b. length b ≡ m.file)
  each_file k q got =
      let at = got_map seen xs k q got in
      subst (λ (p : PartSeen). IfSome (file_bytes p) (λ b. length b ≡ m.file)) (sym at.2)
      (whole_file m.file (seen at.0) (ap (λ (n : PartName). piece_size n.extent) (files.names k at.0 at.1)) (whole at.0 0))

  module _ (s : ℕ) (below : s < layout.stripes) (c : List ℕ) (told : contents_of (map seen xs) ≡ Some c) where
    abbrev own : List PartSeen
    own = map seen (dealt_to layout.stripes region s xs)

    abbrev origin_ : Origin
    origin_ = split_origin dir m layout region (map seen xs) s

    file_told : (number : ℕ) → number < file_count m → (region + number) % layout.stripes ≡ s → file_among layout.stripes own number ≡ Some (take m.file (drop (number * m.file) c))
    file_told number inside of =
        let n = layout.stripes in
        let some : 0 < n = omega (arith, below) in
        let at = there xs number (omega (arith, inside, files.count)) in
        let here : slice_get (dealt_to n region s xs) (number / n) ≡ Some at.0 = dealt_here n region s some below xs (number / n) ∙ ap (slice_get xs) (sym (number_is n region s some below number of)) ∙ at.1 in
        ap bytes_in (slice_get-map seen (dealt_to n region s xs) (number / n) ∙ ap (option_map seen) here)
        ∙ file_in m.file (map seen xs) c told each_file number (seen at.0) (slice_get-map seen xs number ∙ ap (option_map seen) at.1)

    page_told : (page : ℕ) → has_page origin_ page ≡ true → page_of_file origin_ (file_among layout.stripes own (page / (m.file / layout.page_size))) page ≡ Some (page_bytes layout.page_size c page)
    page_told page has =
        let group = m.file / layout.page_size in
        let two = and_parts _ _ has in
        let near : page < file_count m * group = subst (λ (n : ℕ). page < n) (pages_of_files m layout shape cut) (ltb-true page (m.size / layout.page_size) two.0) in
        ap (λ t. page_of_file origin_ t page) (file_told (page / group) (group_below page group (file_count m) near) (eqb-true _ _ two.1))
        ∙ ap Some (page_in m.file group layout.page_size page c cut (page_within group layout.page_size m.file page shape.meta.some_file cut))

    own_tells : sparse_told origin_ (file_among layout.stripes own) ≡ told_by origin_ (page_bytes layout.page_size c)
    own_tells =
        let o = origin_ in
        let f : ℕ → Option (List ℕ) = file_among layout.stripes own in
        let given : ℕ → Option (List ℕ) = λ p. cond (has_page o p) (Some (page_bytes layout.page_size c p)) None in
        ext_get_or None (sparse_told o f) (told_by o (page_bytes layout.page_size c)) (length-sparse_told o f ∙ sym (length-map-range_with_len given 0 o.pages)) (λ p inside.
        told_at-sparse_told o f p
        ∙ same p
        ∙ sym (get_or-map-range_with_len given 0 o.pages p p None (omega (arith, inside, length-sparse_told o f)) (zero-add p)))
      where
        same : (p : ℕ) → cond (has_page origin_ p) (page_of_file origin_ (file_among layout.stripes own (p / origin_.group)) p) None ≡ cond (has_page origin_ p) (Some (page_bytes layout.page_size c p)) None
        same p = elim (cases_Bool (has_page origin_ p)) [
          | inl its ↦ ap (λ t. cond (has_page origin_ p) t None) (page_told p its)
          | inr other ↦ cond-false (has_page origin_ p) (page_of_file origin_ (file_among layout.stripes own (p / origin_.group)) p) None other ∙ sym (cond-false (has_page origin_ p) (Some (page_bytes layout.page_size c p)) None other)
        ]

    lane_tells_pages : (split_seen dir m layout region (map seen xs) s).told ≡ told_by origin_ (page_bytes layout.page_size c)
    lane_tells_pages = ap (λ (ps : List PartSeen). sparse_told origin_ (file_among layout.stripes ps)) (dealt_map seen layout.stripes region s 0 xs) ∙ own_tells

  pub tell_pages : (lanes : List LaneSeen) → lanes ≡ lanes_seen dir m layout region (map seen xs) → TellPages (contents_of (map seen xs)) lanes
  tell_pages lanes are = go (contents_of (map seen xs)) refl
    where
      go : (t : Option (List ℕ)) → contents_of (map seen xs) ≡ t → TellPages t lanes
      go None told = tt
      go (Some c) told = λ s l got.
          let at = got_map (split_seen dir m layout region (map seen xs)) (range_with_len 0 layout.stripes) s l (subst (λ (ls : List LaneSeen). slice_get ls s ≡ Some l) are got) in
          let number = got_range 0 layout.stripes s at.0 at.1 in
          subst (λ (x : LaneSeen). x.told ≡ told_by x.origin (page_bytes x.origin.page_size c)) (sym at.2)
          (lane_tells_pages at.0 (omega (arith, number.0, number.1)) c told)

-- the lanes of a split can be joined
pub one_split : (dir : List ℕ) (m : Meta) (layout : Layout) (region : ℕ) (parts : List PartSeen) (lanes : List LaneSeen) → lanes ≡ lanes_seen dir m layout region parts → AreOfOneStore lanes
one_split dir m layout region parts lanes are = record {
  dir = dir;
  shape = m;
  layout = layout;
  region = region;
  there = there_in parts;
  count = ap (length {A = LaneSeen}) are ∙ length-map-range_with_len (split_seen dir m layout region parts) 0 layout.stripes;
  each = λ s l got.
      let at = got_map (split_seen dir m layout region parts) (range_with_len 0 layout.stripes) s l (subst (λ (ls : List LaneSeen). slice_get ls s ≡ Some l) are got) in
      let number = got_range 0 layout.stripes s at.0 at.1 in
      ap (λ (x : LaneSeen). x.origin) at.2 ∙ ap (split_origin dir m layout region parts) (number.0 ∙ zero-add s);
}
