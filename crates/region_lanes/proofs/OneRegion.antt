-- The lanes of one region, just opened.
use Rattle.std.proofs.Common.{◌≡◌, ◌⊎◌, inl, inr, ℕ, zero, suc, ◌+◌, ◌*◌, ◌/◌, ◌<◌, ◌≤◌, true, false, List, [], ◌∷◌, ◌++◌, map, length, take, replicate, slice_get, Option, Some, None, Result, Ok, Err, refl, sym, ap, subst, ◌∙◌, arith, append-nil, length-append}
use Rattle.std.specs.Option.{IfSome, option_map, unwrap_or}
use Rattle.std.specs.Prelude.{IfOk, OnOk}
use Rattle.std.proofs.lemmas.List.{length-map, length-replicate, map-append}
use Rattle.page_base.specs.Backings.{Backing, in_memory, in_file, in_files}
use Rattle.page_base.specs.ListSeen.{ListSeen}
use Rattle.page_base.specs.Lanes.{Origin, LaneSeen, all_there}
use Rattle.page_base.specs.declared.layout.Layout.{Layout}
use Rattle.store_trait.specs.Memory.{memory_origin, share_seen, told_by, page_bytes}
use Rattle.store_trait.specs.MemLanes.{lane_seen, AreLanesOf}
use Rattle.store_trait.specs.declared.mem_lane.MemLane.{MemLane}
use Rattle.file_store.specs.Parts.{striped, told_pieces, PartName}
use Rattle.file_store.specs.Shelves.{Shelf, FolderSeen, file_at, any_out}
use Rattle.file_store.specs.Folders.{stripe_origin, stripe_names, reached_bytes, opened, AreOut, OfFile, TellsMissing, Suffices, need_of}
use Rattle.file_store.specs.declared.folder.Cut.{Cut}
use Rattle.file_store.specs.declared.folder.FolderFault.{FolderFault}
use Rattle.file_store.specs.declared.folder.FolderFault.TheVariants.{Missing, TooShort, Failed, OutOfMemory}
use Rattle.region_table.specs.Regions.{NamedRegion}
use Rattle.serial_pager.specs.Pagers.{rows_by}
use Rattle.region_lanes.specs.Regions.{region_origin, IsOpenedIn, TellsShare, bytes_in, first_bytes, OpensWell, ShowsFault}
use Rattle.region_lanes.specs.InsideOpened.{IsFileLane, AreFileLanes, AreZeroShares, IsRegionLane, AreRegionLanes, HasGoodSize, NoneOutIn, NoneOutOf, ShowsOpening, names_in, cut_of, HaveRoom}
use Rattle.region_lanes.proofs.Lists.{slice_get_map, some_is}

-- ---- a region in memory

pub zero_shares : (layout : Layout) (region bytes z n : ℕ) (contents : List ℕ) (lanes : List MemLane) → z ≡ layout.page_size → n ≡ layout.stripes → contents ≡ replicate bytes 0 → AreLanesOf region (length contents / z) z n contents lanes → AreZeroShares layout region bytes (map lane_seen lanes)
zero_shares layout region bytes z n contents lanes is_z is_n zeros are = record {
  count = length-map lanes lane_seen ∙ are.count ∙ is_n;
  each = λ s l at.
      let was = slice_get_map lane_seen lanes s l at in
      was.2 ∙ are.each s was.0 was.1
      ∙ ap (λ (x : ℕ). share_seen (memory_origin region (length contents / x) x n s) contents) is_z
      ∙ ap (λ (x : ℕ). share_seen (memory_origin region (length contents / layout.page_size) layout.page_size x s) contents) is_n
      ∙ ap (λ (xs : List ℕ). share_seen (memory_origin region (length xs / layout.page_size) layout.page_size layout.stripes s) xs) zeros
      ∙ ap (λ (x : ℕ). share_seen (memory_origin region (x / layout.page_size) layout.page_size layout.stripes s) (replicate bytes 0)) (length-replicate bytes 0);
}

pub memory_lanes : (folder : FolderSeen) (layout : Layout) (region : ℕ) (g : NamedRegion) (lanes : List LaneSeen) → g.backing ≡ in_memory → AreZeroShares layout region g.size lanes → AreRegionLanes folder layout region g lanes
memory_lanes folder layout region g lanes is are = record {
  count = are.count;
  each = λ s l at.
      let e = are.each s l at in
      record {
        origin = ap (λ (x : LaneSeen). x.origin) e ∙ ap (λ (b : Backing). record { backing = b; region = region; pages = g.size / layout.page_size; page_size = layout.page_size; group = 1; stripes = layout.stripes; stripe = s; there = all_there }) (sym is);
        fresh = ap (λ (x : LaneSeen). x.count) e;
        tells = subst (λ (b : Backing). IsOpenedIn b folder.told g l) (sym is) (subst (λ (x : LaneSeen). TellsShare x (replicate g.size 0)) (sym e) refl);
      };
}

-- ---- a region in one file

file_tells : (files : _) (path : List ℕ) (o : Origin) (size : ℕ) (file : Option (List ℕ)) → file_at files path ≡ file → o.pages * o.page_size ≡ size → Suffices size file → reached_bytes (striped o) (file_at files path) ≡ bytes_in files (in_file path) size
file_tells files path o size None is whole fits = absurd fits
file_tells files path o size (Some bytes) is whole fits = ap (reached_bytes (striped o)) is ∙ ap (λ (k : ℕ). take k bytes) whole ∙ ap (λ (t : Option (List ℕ)). take size (unwrap_or t [])) (sym is)

file_lane : (told : Option Shelf) (layout : Layout) (region : ℕ) (g : NamedRegion) (path : List ℕ) (s : ℕ) (l : LaneSeen) → g.backing ≡ in_file path → g.size ≡ g.size / layout.page_size * layout.page_size → IfSome told (λ shelf. Suffices g.size (file_at shelf.files path)) → IsFileLane told path (cut_of layout region g) s l → IsRegionLane told layout region g s l
file_lane told layout region g path s l is whole fits lane = record {
  origin = lane.origin ∙ ap (λ (b : Backing). record { backing = b; region = region; pages = g.size / layout.page_size; page_size = layout.page_size; group = 1; stripes = layout.stripes; stripe = s; there = all_there }) (sym is);
  fresh = lane.fresh;
  tells = subst (λ (b : Backing). IsOpenedIn b told g l) (sym is) (where_told told fits lane.tells);
}
  where
    o : Origin
    o = stripe_origin path (cut_of layout region g) s

    where_told : (t : Option Shelf) → IfSome t (λ shelf. Suffices g.size (file_at shelf.files path)) → IfSome t (λ shelf. l.told ≡ told_pieces (striped (stripe_origin path (cut_of layout region g) s)) (reached_bytes (striped (stripe_origin path (cut_of layout region g) s)) (file_at shelf.files path))) → IfSome t (λ shelf. TellsShare l (first_bytes shelf.files g))
    where_told None fits tells = tt
    where_told (Some shelf) fits tells =
        tells
        ∙ ap (λ (bytes : List ℕ). told_by o (page_bytes layout.page_size bytes)) (file_tells shelf.files path o g.size (file_at shelf.files path) refl (sym whole) fits ∙ ap (λ (b : Backing). bytes_in shelf.files b g.size) (sym is))
        ∙ ap (λ (q : Origin). told_by q (page_bytes q.page_size (first_bytes shelf.files g))) (sym lane.origin)

pub file_region : {T : Type 0} (seen : T → List LaneSeen) (r : Result T FolderFault) (folder : FolderSeen) (layout : Layout) (region : ℕ) (g : NamedRegion) (path : List ℕ) (cut : Cut) → g.backing ≡ in_file path → HasGoodSize layout.page_size g → cut ≡ cut_of layout region g → OfFile folder path (λ file. TellsMissing file (need_of cut) r) → IfOk r (λ ls. AreFileLanes folder path cut (seen ls)) → IfOk r (λ ls. AreRegionLanes folder layout region g (seen ls))
file_region seen (Err fault) folder layout region g path cut lies good is missing lanes = tt
file_region seen (Ok ls) folder layout region g path cut lies good is missing lanes =
    let are : AreFileLanes folder path (cut_of layout region g) (seen ls) = subst (λ (c : Cut). AreFileLanes folder path c (seen ls)) is lanes in
    record {
      count = are.count;
      each = λ s l at. file_lane folder.told layout region g path s l lies good.whole
          (subst (λ (n : ℕ). IfSome folder.told (λ shelf. Suffices n (file_at shelf.files path))) (ap need_of is ∙ sym good.whole) missing)
          (are.each s l at);
    }

pub file_out : {T : Type 0} (r : Result T FolderFault) (layout : Layout) (region : ℕ) (g : NamedRegion) (path : List ℕ) (cut : Cut) (old new : FolderSeen) → g.backing ≡ in_file path → cut ≡ cut_of layout region g → OnOk r (AreOut (stripe_names path cut) old new) → OnOk r (AreOut (names_in g.backing (cut_of layout region g)) old new)
file_out (Err fault) layout region g path cut old new lies is out = tt
file_out (Ok ls) layout region g path cut old new lies is out =
    subst (λ (b : Backing). AreOut (names_in b (cut_of layout region g)) old new) (sym lies) (subst (λ (c : Cut). AreOut (stripe_names path c) old new) is out)

pub file_shows : {T : Type 0} (r : Result T FolderFault) (folder : FolderSeen) (layout : Layout) (region : ℕ) (g : NamedRegion) (path : List ℕ) (cut : Cut) → g.backing ≡ in_file path → HasGoodSize layout.page_size g → cut ≡ cut_of layout region g → OfFile folder path (λ file. TellsMissing file (need_of cut) r) → ShowsOpening folder g r
file_shows r folder layout region g path cut lies good is missing =
    go r folder.told (subst (λ (n : ℕ). IfSome folder.told (λ shelf. TellsMissing (file_at shelf.files path) n r)) (ap need_of is ∙ sym good.whole) missing)
  where
    go : {T : Type 0} (r : Result T FolderFault) (t : Option Shelf) → IfSome t (λ shelf. TellsMissing (file_at shelf.files path) g.size r) → ShowsOpening (record { told = t; count = folder.count }) g r
    go {T} (Ok ls) None tells = tt
    go {T} (Ok ls) (Some shelf) tells = subst (λ (b : Backing). OpensWell shelf.files b g.size) (sym lies) tells
    go {T} (Err fault) None tells = tt
    go {T} (Err Missing) (Some shelf) tells = subst (λ (b : Backing). ShowsFault shelf.files b g.size Missing) (sym lies) tells
    go {T} (Err (TooShort have need)) (Some shelf) tells = subst (λ (b : Backing). ShowsFault shelf.files b g.size (TooShort have need)) (sym lies) tells
    go {T} (Err (Failed faults)) (Some shelf) tells = subst (λ (b : Backing). ShowsFault shelf.files b g.size (Failed faults)) (sym lies) tells
    go {T} (Err OutOfMemory) (Some shelf) tells = subst (λ (b : Backing). ShowsFault shelf.files b g.size OutOfMemory) (sym lies) tt

pub memory_out : (layout : Layout) (region : ℕ) (g : NamedRegion) (old : FolderSeen) → g.backing ≡ in_memory → AreOut (names_in g.backing (cut_of layout region g)) old old
memory_out layout region g old lies = subst (λ (b : Backing). AreOut (names_in b (cut_of layout region g)) old old) (sym lies) (same old.told)
  where
    same : (t : Option Shelf) → t ≡ option_map (opened []) t
    same None = refl
    same (Some s) = ap (λ (out : List PartName). Some (record { files = s.files; out = out })) (sym (append-nil s.out))

-- ---- rows without a lane

appended_at : {X : Type 0} (xs : List X) (y x : X) (k : ℕ) → slice_get (xs ++ y ∷ []) k ≡ Some x → (slice_get xs k ≡ Some x) ⊎ (x ≡ y)
appended_at [] y x zero e = inr (sym (some_is e))
appended_at [] y x (suc k) e = absurd (cc)
appended_at (z ∷ xs) y x zero e = inl e
appended_at (z ∷ xs) y x (suc k) e = appended_at xs y x k e

pub one_row_more : {S : Type 0} (seen : S → LaneSeen) (old new : List (ListSeen S)) (row : ListSeen S) → new ≡ old ++ row ∷ [] → row.items ≡ [] → rows_by seen old ≡ replicate (length old) [] → rows_by seen new ≡ replicate (length new) []
one_row_more {S} seen old new row e empty was =
    ap (rows_by seen) e
    ∙ map-append (λ (st : ListSeen S). map seen st.items) old (row ∷ [])
    ∙ ap (λ (xs : List (List LaneSeen)). xs ++ map seen row.items ∷ []) was
    ∙ ap (λ (items : List S). replicate (length old) [] ++ map seen items ∷ []) empty
    ∙ pushed (length old)
    ∙ ap (λ (n : ℕ). replicate n []) longer
  where
    longer : suc (length old) ≡ length new
    longer = omega (arith, ap (length {A = ListSeen S}) e, length-append old (row ∷ []))

    pushed : (n : ℕ) → replicate {A = List LaneSeen} n [] ++ [] ∷ [] ≡ replicate (suc n) []
    pushed zero = refl
    pushed (suc n) = ap (λ (xs : List (List LaneSeen)). [] ∷ xs) (pushed n)

pub room_more : {S : Type 0} (k : ℕ) (old new : List (ListSeen S)) (row : ListSeen S) → new ≡ old ++ row ∷ [] → k ≤ row.spare → HaveRoom k old → HaveRoom k new
room_more k old new row e room was s x at = elim (appended_at old row x s (ap (λ xs. slice_get xs s) (sym e) ∙ at)) [
  | inl there ↦ was s x there
  | inr same ↦ subst (λ (y : ListSeen _). k ≤ y.spare) (sym same) room
]

pub pushed_len : {X : Type 0} (xs ys : List X) (x : X) → ys ≡ xs ++ x ∷ [] → length ys ≡ length xs + 1
pushed_len {X} xs ys x e = ap (length {A = X}) e ∙ length-append xs (x ∷ [])
