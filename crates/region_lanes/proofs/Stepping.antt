-- One region more is opened.
use Rattle.std.proofs.Common.{◌≡◌, ◌≢◌, ◌⊎◌, inl, inr, ℕ, zero, suc, ◌+◌, ◌*◌, ◌/◌, ◌%◌, ◌<◌, ◌≤◌, ◌&&◌, ◌==◌, Bool, true, false, List, [], ◌∷◌, ◌++◌, map, length, take, replicate, slice_get, slice_index_or, Option, Some, None, refl, sym, ap, subst, ◌∙◌, arith, append-nil, length-append}
use Rattle.std.specs.Option.{IfSome, option_map}
use Rattle.std.specs.List.{Contains, AllByRecursion, range_with_len}
use Rattle.std.specs.Str.{bytes_eq}
use Rattle.std.proofs.lemmas.Bool.{cases_lt, cases_Bool, and_from, and_parts, eq-eqb, eqb-true, both_ways}
use Rattle.std.proofs.lemmas.List.{length-replicate, get_or-replicate}
use Rattle.std.proofs.lemmas.Slice.Eq.{bytes_eq-Decides}
use Rattle.page_base.specs.Backings.{Backing, in_memory, in_file, in_files}
use Rattle.page_base.specs.Lanes.{Origin, LaneSeen, all_there}
use Rattle.page_base.specs.declared.layout.Layout.{Layout}
use Rattle.file_store.specs.Parts.{striped, PartName, WhereTold}
use Rattle.file_store.specs.Shelves.{File, Shelf, FolderSeen, same_part, any_out}
use Rattle.file_store.specs.FileLanes.{part_of, backing_path, IsInFile}
use Rattle.file_store.specs.Folders.{stripe_name, stripe_names, opened, AreOut}
use Rattle.file_store.specs.Folders.{HasReason}
use Rattle.file_store.specs.declared.folder.FolderFault.{FolderFault}
use Rattle.file_store.specs.declared.folder.FolderFault.TheVariants.{Missing, TooShort, Failed, OutOfMemory}
use Rattle.region_table.specs.Regions.{NamedRegion}
use Rattle.script_run.specs.Contents.{no_lane}
use Rattle.script_run.specs.FitsSerial.{lane_at}
use Rattle.region_lanes.specs.Closings.{rows_flat, IsOut, IsOutIn, HasPart, AreTheirParts}
use Rattle.region_lanes.specs.Laws.{AreApart}
use Rattle.region_lanes.specs.Regions.{region_origin, AreLanes, AreOpened, IsOpenedIn, TellsShare, first_bytes, is_folder, OpensWell, ShowsFault, ShowsAt, StopCause}
use Rattle.region_lanes.specs.InsideOpened.{IsRegionLane, AreRegionLanes, AreGood, PutsRegionLanes, HasOut, OpensFirst, NoneOutIn, NoneOutOf, names_in, cut_of}
use Rattle.region_lanes.proofs.Lists.{some_is, got_at, inside_of, slice_get_at, index_or_at, taken_at, take_at, take_len, front_at, seam_at, in_left, in_right, in_either, in_at, in_map, of_map, in_range, of_range, any_true}

-- files are told on both sides or on neither, with the same files
record SameTold (old new : Option Shelf) : Type 1 where
  both : (P : Shelf → Type 0) → ((s t : Shelf) → t.files ≡ s.files → P t → P s) → IfSome new P → IfSome old P

same_told : (n k : ℕ) (rows : List (List LaneSeen)) (old new : Option Shelf) → WhereTold (HasOut n k rows) old new → SameTold old new
same_told n k rows None None out = record { both = λ P back here. tt }
same_told n k rows None (Some t) out = absurd out
same_told n k rows (Some s) None out = absurd out
same_told n k rows (Some s) (Some t) out = record { both = λ P back here. back s t out.files here }

opened_in : (b : Backing) (old new : Option Shelf) (g : NamedRegion) (l : LaneSeen) → SameTold old new → IsOpenedIn b new g l → IsOpenedIn b old g l
opened_in in_memory old new g l same is = is
opened_in (in_file path) old new g l same is = same.both (λ s. TellsShare l (first_bytes s.files g)) (λ s t e h. subst (λ (fs : List File). TellsShare l (first_bytes fs g)) e h) is
opened_in (in_files path file) old new g l same is = absurd is

module _ (layout : Layout) (regions : List NamedRegion) (good : AreGood layout.page_size regions) (i : ℕ) (g : NamedRegion) (here : slice_get regions i ≡ Some g) (rows : List (List LaneSeen)) (old now : FolderSeen) (opens : OpensFirst i layout regions rows old now) where
  below : i < length regions
  below = inside_of regions i g here

  taken_len : length (take i regions) ≡ i
  taken_len = take_len regions i (omega (arith, below))

  -- ---- none of the region's parts is out

  none_here : (b : Backing) (t u : Option Shelf) → g.backing ≡ b → WhereTold (HasOut layout.stripes i rows) t u → IfSome u (λ s. NoneOutIn b s.out)
  none_here b None None is out = tt
  none_here b None (Some u) is out = absurd out
  none_here b (Some t) None is out = absurd out
  none_here in_memory (Some t) (Some u) is out = tt
  none_here (in_files path file) (Some t) (Some u) is out = tt
  none_here (in_file path) (Some t) (Some u) is out = elim (cases_Bool (any_out path u.out)) [
    | inr none ↦ none
    | inl some ↦ absurd (never some)
  ]
    where
      never : any_out path u.out ≡ true → ⊥
      never some =
          let x = any_true (λ (y : PartName). bytes_eq y.path path) u.out some in
          let its = out.no_other x.0 x.1 in
          let l : LaneSeen = lane_at rows its.0 its.1 in
          let k : ℕ = its.1 in
          let h = got_at (take i regions) k (omega (arith, its.3, taken_len)) in
          let at = taken_at regions i k h.0 h.1 in
          let lies : l.origin.backing ≡ h.0.backing = ap (λ (o : Origin). o.backing) (opens.opened.lanes.origin its.0 k h.0 its.2 h.1) in
          let in_l : l.origin.backing ≡ in_file (backing_path l.origin.backing) = its.4.0 in
          let part_path : x.0.path ≡ backing_path l.origin.backing = (bytes_eq-Decides x.0.path (backing_path l.origin.backing)).0 (and_parts _ _ its.4.1).0 in
          let its_path : backing_path l.origin.backing ≡ path = sym part_path ∙ (bytes_eq-Decides x.0.path path).0 x.2 in
          let same : k ≡ i = good.apart k i h.0 g path at.1 here (sym lies ∙ in_l ∙ ap in_file its_path) is in
          omega (arith, same, its.3)

  pub none_out : NoneOutOf g now
  none_out = none_here g.backing old.told now.told refl opens.out

  told_same : SameTold old.told now.told
  told_same = same_told layout.stripes i rows old.told now.told opens.out

  -- the region's refusal, by the files as they were at first
  pub refusal_shown : (fault : FolderFault) → IfSome now.told (λ s. ShowsFault s.files g.backing g.size fault) → IfSome old.told (λ s. ShowsAt s.files (slice_get regions i) fault)
  refusal_shown fault shows = told_same.both (λ s. ShowsAt s.files (slice_get regions i) fault) (λ s t e h. subst (λ (fs : List File). ShowsAt fs (slice_get regions i) fault) e h)
      (subst (λ (o : Option NamedRegion). IfSome now.told (λ s. ShowsAt s.files o fault)) (sym here) shows)

  -- ---- the rows

  module _ (more : List (List LaneSeen)) (lanes : List LaneSeen) (new : FolderSeen) (are : AreRegionLanes now layout i g lanes) (puts : PutsRegionLanes lanes rows more) (well : IfSome now.told (λ s. OpensWell s.files g.backing g.size)) (out : AreOut (names_in g.backing (cut_of layout i g)) now new) where
    was : AreLanes layout.page_size layout.stripes (take i regions) rows
    was = opens.opened.lanes

    row_is : (s : ℕ) → s < layout.stripes → slice_index_or more s [] ≡ slice_index_or rows s [] ++ slice_index_or lanes s no_lane ∷ []
    row_is s h = puts.each s (omega (arith, h, was.count))

    width : (s : ℕ) → s < layout.stripes → length (slice_index_or rows s []) ≡ i
    width s h = was.width s h ∙ taken_len

    old_lane : (s r : ℕ) → s < layout.stripes → r < i → lane_at more s r ≡ lane_at rows s r
    old_lane s r h k = ap (λ (row : List LaneSeen). slice_index_or row r no_lane) (row_is s h) ∙ front_at (slice_index_or rows s []) (slice_index_or lanes s no_lane ∷ []) r no_lane (omega (arith, k, width s h))

    new_lane : (s : ℕ) → s < layout.stripes → lane_at more s i ≡ slice_index_or lanes s no_lane
    new_lane s h =
        ap (λ (row : List LaneSeen). slice_index_or row i no_lane) (row_is s h)
        ∙ ap (λ (k : ℕ). slice_index_or (slice_index_or rows s [] ++ slice_index_or lanes s no_lane ∷ []) k no_lane) (sym (width s h))
        ∙ seam_at (slice_index_or rows s []) (slice_index_or lanes s no_lane) no_lane

    its_lane : (s : ℕ) → s < layout.stripes → IsRegionLane now.told layout i g s (lane_at more s i)
    its_lane s h = subst (IsRegionLane now.told layout i g s) (sym (new_lane s h)) (are.each s (slice_index_or lanes s no_lane) (slice_get_at lanes s no_lane (omega (arith, h, are.count))))

    -- what holds of each lane that was there, and of the new ones, holds of all
    each_lane : (P : ℕ → ℕ → NamedRegion → LaneSeen → Type 0) → ((s r : ℕ) (h : NamedRegion) → s < layout.stripes → slice_get (take i regions) r ≡ Some h → P s r h (lane_at rows s r)) → ((s : ℕ) → s < layout.stripes → P s i g (lane_at more s i)) → (s r : ℕ) (h : NamedRegion) → s < layout.stripes → slice_get (take (i + 1) regions) r ≡ Some h → P s r h (lane_at more s r)
    each_lane P before last s r h in_rows known =
        let at = taken_at regions (i + 1) r h known in
        elim (cases_lt r i) [
          | inl less ↦ subst (λ (l : LaneSeen). P s r h l) (sym (old_lane s r in_rows less)) (before s r h in_rows (take_at regions i r h less at.1))
          | inr past ↦
              let e : i ≡ r = omega (arith, past, at.0) in
              let same : g ≡ h = some_is (sym here ∙ ap (slice_get regions) e ∙ at.1) in
              subst (λ (q : ℕ). P s q h (lane_at more s q)) e (subst (λ (x : NamedRegion). P s i x (lane_at more s i)) same (last s in_rows))
        ]

    lanes_more : AreLanes layout.page_size layout.stripes (take (i + 1) regions) more
    lanes_more = record {
      count = puts.count ∙ was.count;
      width = λ s h. ap (length {A = LaneSeen}) (row_is s h) ∙ length-append (slice_index_or rows s []) (slice_index_or lanes s no_lane ∷ []) ∙ omega (arith, width s h, take_len regions (i + 1) (omega (arith, below)));
      origin = each_lane (λ s r h l. l.origin ≡ region_origin layout.page_size layout.stripes s r h) was.origin (λ s h. (its_lane s h).origin);
    }

    opened_more : AreOpened old.told layout.page_size layout.stripes (take (i + 1) regions) more
    opened_more = record {
      lanes = lanes_more;
      fresh = λ s r h k.
          let at = got_at (take (i + 1) regions) r k in
          each_lane (λ s r h l. l.count ≡ 0) (λ s r x h known. opens.opened.fresh s r h (inside_of (take i regions) r x known)) (λ s h. (its_lane s h).fresh) s r at.0 h at.1;
      tells = each_lane (λ s r h l. IsOpenedIn h.backing old.told h l) opens.opened.tells (λ s h. opened_in g.backing old.told now.told g (lane_at more s i) told_same (its_lane s h).tells);
      well = wells old.told opens.opened.well (told_same.both (λ s. OpensWell s.files g.backing g.size) (λ s t e h. subst (λ (fs : List File). OpensWell fs g.backing g.size) e h) well);
    }
      where
        wells : (t : Option Shelf) → IfSome t (λ shelf. (r : ℕ) (h : NamedRegion) → slice_get (take i regions) r ≡ Some h → OpensWell shelf.files h.backing h.size) → IfSome t (λ shelf. OpensWell shelf.files g.backing g.size) → IfSome t (λ shelf. (r : ℕ) (h : NamedRegion) → slice_get (take (i + 1) regions) r ≡ Some h → OpensWell shelf.files h.backing h.size)
        wells None before last = tt
        wells (Some shelf) before last = λ r h known.
            let at = taken_at regions (i + 1) r h known in
            elim (cases_lt r i) [
              | inl less ↦ before r h (take_at regions i r h less at.1)
              | inr past ↦
                  let e : i ≡ r = omega (arith, past, at.0) in
                  let same : g ≡ h = some_is (sym here ∙ ap (slice_get regions) e ∙ at.1) in
                  subst (λ (x : NamedRegion). OpensWell shelf.files x.backing x.size) same last
            ]

    -- ---- the parts

    -- a part's name is its lane's
    stripe_part : (b : Backing) (s : ℕ) → g.backing ≡ b → s < layout.stripes → (out : List PartName) → IsOutIn b (part_of (lane_at more s i)).name (out ++ names_in b (cut_of layout i g))
    stripe_part in_memory s is h out = tt
    stripe_part (in_files path file) s is h out = absurd (never (good.built i g here))
      where
        never : is_folder g.backing ≡ false → ⊥
        never built = absurd (let e : is_folder (in_files path file) ≡ false = subst (λ (b : Backing). is_folder b ≡ false) is built in cc)
    stripe_part (in_file path) s is h out =
        let o : (lane_at more s i).origin ≡ region_origin layout.page_size layout.stripes s i g = (its_lane s h).origin in
        let name : stripe_name path (cut_of layout i g) s ≡ (part_of (lane_at more s i)).name =
        sym (ap (λ (q : Origin). let p : PartName = record { path = backing_path q.backing; extent = striped q } in p) o
        ∙ ap (λ (b : Backing). let p : PartName = record { path = backing_path b; extent = striped (record { backing = b; region = i; pages = g.size / layout.page_size; page_size = layout.page_size; group = 1; stripes = layout.stripes; stripe = s; there = all_there }) } in p) is) in
        subst (λ (x : PartName). Contains (out ++ stripe_names path (cut_of layout i g)) x) name
        (in_right out (stripe_names path (cut_of layout i g)) (stripe_name path (cut_of layout i g) s)
        (in_map (stripe_name path (cut_of layout i g)) (range_with_len 0 layout.stripes) s (in_range 0 layout.stripes s (omega arith) (omega (arith, h)))))

    out_in_more : (b : Backing) (x : PartName) (out names : List PartName) → IsOutIn b x out → IsOutIn b x (out ++ names)
    out_in_more in_memory x out names is = tt
    out_in_more (in_file path) x out names is = in_left out names x is
    out_in_more (in_files path file) x out names is = absurd is

    named_part : (b : Backing) (x : PartName) → g.backing ≡ b → Contains (names_in b (cut_of layout i g)) x → (s : ℕ) × (s < layout.stripes) × HasPart x (lane_at more s i)
    named_part in_memory x is has = absurd (omega (arith, has.1))
    named_part (in_files path file) x is has = absurd (omega (arith, has.1))
    named_part (in_file path) x is has =
        let s = of_map (stripe_name path (cut_of layout i g)) (range_with_len 0 layout.stripes) x has in
        let h : s.0 < layout.stripes = omega (arith, of_range 0 layout.stripes s.0 s.1) in
        let o : (lane_at more s.0 i).origin ≡ region_origin layout.page_size layout.stripes s.0 i g = (its_lane s.0 h).origin in
        let lies : (lane_at more s.0 i).origin.backing ≡ in_file path = ap (λ (q : Origin). q.backing) o ∙ is in
        let its_path : backing_path (lane_at more s.0 i).origin.backing ≡ path = ap backing_path lies in
        let stripe : (lane_at more s.0 i).origin.stripe ≡ s.0 = ap (λ (q : Origin). q.stripe) o in
        let same : same_part (stripe_name path (cut_of layout i g) s.0) (part_of (lane_at more s.0 i)).name ≡ true = and_from _ _ ((bytes_eq-Decides path (backing_path (lane_at more s.0 i).origin.backing)).1 (sym its_path)) (eq-eqb s.0 (lane_at more s.0 i).origin.stripe (sym stripe)) in
        (s.0, h, (lies ∙ ap in_file (sym its_path), subst (λ (y : PartName). same_part y (part_of (lane_at more s.0 i)).name ≡ true) s.2 same))

    out_more : (t u v : Option Shelf) → WhereTold (HasOut layout.stripes i rows) t u → v ≡ option_map (opened (names_in g.backing (cut_of layout i g))) u → WhereTold (HasOut layout.stripes (i + 1) more) t v
    out_more None None v was_out e = subst (λ (x : Option Shelf). WhereTold (HasOut layout.stripes (i + 1) more) None x) (sym e) tt
    out_more None (Some u) v was_out e = absurd was_out
    out_more (Some t) None v was_out e = absurd was_out
    out_more (Some t) (Some u) v was_out e = subst (λ (x : Option Shelf). WhereTold (HasOut layout.stripes (i + 1) more) (Some t) x) (sym e) (record {
      files = was_out.files;
      out = λ s r h k. elim (cases_lt r i) [
        | inl less ↦ subst (λ (l : LaneSeen). IsOut l (u.out ++ names_in g.backing (cut_of layout i g))) (sym (old_lane s r h less)) (out_in_more (lane_at rows s r).origin.backing (part_of (lane_at rows s r)).name u.out (names_in g.backing (cut_of layout i g)) (was_out.out s r h less))
        | inr past ↦
            let e : i ≡ r = omega (arith, past, k) in
            let lies : g.backing ≡ (lane_at more s i).origin.backing = sym (ap (λ (q : Origin). q.backing) (its_lane s h).origin) in
            subst (λ (q : ℕ). IsOut (lane_at more s q) (u.out ++ names_in g.backing (cut_of layout i g))) e
            (subst (λ (b : Backing). IsOutIn b (part_of (lane_at more s i)).name (u.out ++ names_in g.backing (cut_of layout i g))) lies (stripe_part g.backing s refl h u.out))
      ];
      no_other = λ x has. elim (in_either u.out (names_in g.backing (cut_of layout i g)) x has) [
        | inl before ↦
            let its = was_out.no_other x before in
            (its.0, its.1, its.2, omega (arith, its.3), subst (λ (l : LaneSeen). HasPart x l) (sym (old_lane its.0 its.1 its.2 its.3)) its.4)
        | inr named ↦
            let its = named_part g.backing x refl named in
            (its.0, i, its.1, omega arith, its.2)
      ];
    })

    pub one_more : OpensFirst (i + 1) layout regions more old new
    one_more = record {
      few = omega (arith, below);
      opened = opened_more;
      out = out_more old.told now.told new.told opens.out out;
    }

-- the count that a failed call carries is above the one before all calls
pub stop_cause : (before now after : ℕ) (fault : FolderFault) → before ≤ now → HasReason now after fault → StopCause before after fault
stop_cause before now after Missing later reason = tt
stop_cause before now after (TooShort have need) later reason = tt
stop_cause before now after OutOfMemory later reason = tt
stop_cause before now after (Failed faults) later reason = (omega (arith, later, reason.0, reason.1), omega (arith, reason.1))

pub cause_later : (before now after : ℕ) (fault : FolderFault) → now ≤ after → StopCause before now fault → StopCause before after fault
cause_later before now after Missing later cause = tt
cause_later before now after (TooShort have need) later cause = tt
cause_later before now after OutOfMemory later cause = tt
cause_later before now after (Failed faults) later cause = (cause.0, omega (arith, later, cause.1))
