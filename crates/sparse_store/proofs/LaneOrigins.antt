-- Lanes of one store: their files, by their origins alone, and the parts of all files.
use Rattle.std.proofs.Common.{◌≡◌, inl, inr, ℕ, ◌+◌, ◌*◌, ◌/◌, ◌%◌, ◌<◌, List, map, length, slice_get, Some, refl, sym, ap, subst, ◌∙◌, arith}
use Rattle.std.specs.Option.{option_map}
use Rattle.std.specs.List.{range_with_len}
use Rattle.std.proofs.lemmas.Bool.{cases_lt}
use Rattle.std.proofs.lemmas.List.{length-map}
use Rattle.std.proofs.lemmas.Nat.{mod_below}
use Rattle.std.proofs.lemmas.Option.{slice_get-map, same_Some}
use Rattle.std.proofs.Math.Nat.{mul-div_cancel}
use Rattle.page_base.specs.Backings.{Backing, in_memory, in_file, in_files}
use Rattle.page_base.specs.Lanes.{Origin, LaneSeen}
use Rattle.page_base.specs.declared.layout.Layout.{Layout}
use Rattle.file_store.specs.FileLanes.{backing_path}
use Rattle.file_store.specs.Folders.{whole_name}
use Rattle.file_store.specs.Parts.{PartSeen}
use Rattle.sparse_store.specs.Files.{IsShape, file_path, file_count}
use Rattle.sparse_store.specs.InsideJoins.{HoldsFiles, HoldFiles}
use Rattle.sparse_store.specs.InsideLaneFiles.{file_number, AreStripeFiles, AreLaneFiles}
use Rattle.sparse_store.specs.InsideStores.{AreFiles}
use Rattle.sparse_store.specs.Joins.{AreOfOneStore, AreOfStore, AreDealtOf}
use Rattle.sparse_store.specs.SparseLanes.{HasWholePages, sparse_origin}
use Rattle.sparse_store.specs.Splits.{dealt_to, shares_of}
use Rattle.sparse_store.specs.declared.meta.Meta.{Meta}
use Rattle.sparse_store.proofs.Dealing.{there, number_is, dealt_here}
use Rattle.sparse_store.proofs.LanePages.{pages_of_files}
use Rattle.sparse_store.proofs.LaneTells.{got_range}
use Rattle.sparse_store.proofs.PartLists.{got_map}

abbrev pub backing_file : Backing → ℕ
backing_file in_memory = 0
backing_file (in_file path) = 0
backing_file (in_files path file) = file

-- the parts are those of the lane's files
abbrev pub OriginFiles : Origin → List PartSeen → Type 0
OriginFiles o parts = AreStripeFiles (backing_path o.backing) (backing_file o.backing) (o.pages / o.group) o.stripes o.region o.stripe parts

module _ (m : Meta) (layout : Layout) (shape : IsShape m) (cut : HasWholePages m layout) where
  some_group : 0 < m.file / layout.page_size
  some_group = elim (cases_lt 0 (m.file / layout.page_size)) [
    | inl more ↦ more
    | inr none ↦ absurd (let z : m.file / layout.page_size ≡ 0 = omega (arith, none) in let e : m.file ≡ 0 * layout.page_size = cut ∙ ap (λ (g : ℕ). g * layout.page_size) z in omega (arith, e, shape.meta.some_file))
  ]

  pub count_is : m.size / layout.page_size / (m.file / layout.page_size) ≡ file_count m
  count_is = ap (λ (n : ℕ). n / (m.file / layout.page_size)) (pages_of_files m layout shape cut) ∙ mul-div_cancel (file_count m) some_group

  pub whole_size : m.size / layout.page_size * layout.page_size ≡ m.size
  whole_size =
      let page_size = layout.page_size in
      ap (λ (n : ℕ). n * page_size) (pages_of_files m layout shape cut)
      ∙ (let e : file_count m * (m.file / page_size) * page_size ≡ file_count m * (m.file / page_size * page_size) = omega arith in e)
      ∙ ap (λ (f : ℕ). file_count m * f) (sym cut)
      ∙ sym shape.whole_files

  pub by_origin : (dir : List ℕ) (region stripe : ℕ) (there : List _) (parts : List PartSeen) → AreLaneFiles dir m layout region stripe parts → OriginFiles (sparse_origin dir m layout region stripe there) parts
  by_origin dir region stripe there parts files = subst (λ (n : ℕ). AreStripeFiles dir m.file n layout.stripes region stripe parts) (sym count_is) files

module _ {P A : Type 0} (seen : P → PartSeen) (view : A → LaneSeen) (own : A → List P) (held : (a : A) → OriginFiles (view a).origin (map seen (own a))) (lanes : List A) (split : AreOfOneStore (map view lanes)) where
  abbrev pub origin_at : (s : ℕ) → Origin
  origin_at s = sparse_origin split.dir split.shape split.layout split.region s split.there

  abbrev pub files_of : ℕ
  files_of = (origin_at 0).pages / (origin_at 0).group

  pub origin_is : (s : ℕ) (a : A) → slice_get lanes s ≡ Some a → (view a).origin ≡ origin_at s
  origin_is s a got = split.each s (view a) (slice_get-map view lanes s ∙ ap (option_map view) got)

  -- all are of the first one's store
  pub of_store : (first : A) → slice_get lanes 0 ≡ Some first → (dir : List ℕ) (m : Meta) → (view first).origin.backing ≡ in_files dir m.file → (view first).origin.pages * (view first).origin.page_size ≡ m.size → AreOfStore dir m (map view lanes)
  of_store first got dir m backed sized s l seen_at =
      let at = got_map view lanes s l seen_at in
      let is : l.origin ≡ origin_at s = ap (λ (x : LaneSeen). x.origin) at.2 ∙ origin_is s at.0 at.1 in
      let it : (view first).origin ≡ origin_at 0 = origin_is 0 first got in (
        ap (λ (o : Origin). o.backing) is ∙ sym (ap (λ (o : Origin). o.backing) it) ∙ backed,
        ap (λ (o : Origin). o.pages * o.page_size) is ∙ sym (ap (λ (o : Origin). o.pages * o.page_size) it) ∙ sized,
      )

  own_files : (s : ℕ) (a : A) → slice_get lanes s ≡ Some a → OriginFiles (origin_at s) (map seen (own a))
  own_files s a got = subst (λ (o : Origin). OriginFiles o (map seen (own a))) (origin_is s a got) (held a)

  pub lane_count : length lanes ≡ split.layout.stripes
  lane_count = sym (length-map lanes view) ∙ split.count

  pub rows_hold : HoldFiles files_of split.region (map own lanes)
  rows_hold s row got =
      let at = got_map own lanes s row got in
      let f = own_files s at.0 at.1 in
      let len : length (map seen (own at.0)) ≡ length row = length-map (own at.0) seen ∙ ap length (sym at.2) in
      subst (λ (n : ℕ). HoldsFiles files_of n split.region s (length row)) (sym (length-map lanes own ∙ lane_count))
      (record {
        all = λ number below of. omega (arith, f.all number below of, len);
        below = λ place below. f.below place (omega (arith, below, len));
      })

  pub rows_hold_as : (count region : ℕ) (rows : List (List P)) → files_of ≡ count → split.region ≡ region → rows ≡ map own lanes → HoldFiles count region rows
  rows_hold_as count region rows count_same region_same rows_are =
      subst (λ (n : ℕ). HoldFiles n region rows) count_same
      (subst (λ (r : ℕ). HoldFiles files_of r rows) region_same
      (subst (λ (xs : List (List P)). HoldFiles files_of split.region xs) (sym rows_are) rows_hold))

  module _ (parts : List P) (count : length parts ≡ files_of) (shares : shares_of split.layout.stripes split.region parts ≡ map own lanes) where
    dealt_is : (s : ℕ) (a : A) → slice_get lanes s ≡ Some a → dealt_to split.layout.stripes split.region s parts ≡ own a
    dealt_is s a got =
        let f : ℕ → List P = λ k. dealt_to split.layout.stripes split.region k parts in
        let row : slice_get (map own lanes) s ≡ Some (own a) = slice_get-map own lanes s ∙ ap (option_map own) got in
        let at = got_map f (range_with_len 0 split.layout.stripes) s (own a) (ap (λ (rows : List (List P)). slice_get rows s) shares ∙ row) in
        let number = got_range 0 split.layout.stripes s at.0 at.1 in
        ap f (let e : s ≡ at.0 = omega (arith, number.0) in e) ∙ sym at.2

    pub names_are : (some : 0 < split.layout.stripes) (k : ℕ) (x : P) → slice_get parts k ≡ Some x → (seen x).name ≡ whole_name (file_path split.dir k) split.shape.file
    names_are some k x got =
        let n = split.layout.stripes in
        let s = (split.region + k) % n in
        let below : s < n = mod_below (split.region + k) n some in
        let at = there lanes s (omega (arith, below, lane_count)) in
        let number : k ≡ file_number n split.region s (k / n) = number_is n split.region s some below k refl in
        let place : slice_get (own at.0) (k / n) ≡ Some x = ap (λ (ps : List P). slice_get ps (k / n)) (sym (dealt_is s at.0 at.1)) ∙ dealt_here n split.region s some below parts (k / n) ∙ ap (slice_get parts) (sym number) ∙ got in
        (own_files s at.0 at.1).names (k / n) (seen x) (slice_get-map seen (own at.0) (k / n) ∙ ap (option_map seen) place)
        ∙ ap (λ (j : ℕ). whole_name (file_path split.dir j) split.shape.file) (sym number)

    -- the parts are those of the first lane's store
    pub are_all_files : (dir : List ℕ) (m : Meta) → dir ≡ split.dir → m.file ≡ split.shape.file → files_of ≡ file_count m → 0 < split.layout.stripes → AreFiles seen dir m parts
    are_all_files dir m dir_is file_is count_is some = record {
      count = count ∙ count_is;
      names = λ k x got. names_are some k x got ∙ ap (λ (d : List ℕ). whole_name (file_path d k) split.shape.file) (sym dir_is) ∙ ap (λ (f : ℕ). whole_name (file_path dir k) f) (sym file_is);
    }

    pub dealt_of : AreDealtOf (map view lanes) (map own lanes) parts
    dealt_of s l row seen_at row_at =
        let at = got_map view lanes s l seen_at in
        let is : l.origin ≡ origin_at s = ap (λ (x : LaneSeen). x.origin) at.2 ∙ origin_is s at.0 at.1 in
        let own_at : slice_get (map own lanes) s ≡ Some (own at.0) = slice_get-map own lanes s ∙ ap (option_map own) at.1 in
        same_Some row (own at.0) (sym row_at ∙ own_at)
        ∙ sym (dealt_is s at.0 at.1)
        ∙ ap (λ (o : Origin). dealt_to o.stripes o.region o.stripe parts) (sym is)
