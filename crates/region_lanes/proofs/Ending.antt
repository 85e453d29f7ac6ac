-- The rows when all regions are opened, and when one refused and they are closed again.
use Rattle.std.proofs.Common.{◌≡◌, ℕ, zero, suc, ◌+◌, ◌*◌, ◌/◌, ◌<◌, ◌≤◌, true, false, List, [], ◌∷◌, ◌++◌, map, length, take, drop, replicate, slice_get, slice_index_or, Option, Some, None, refl, sym, ap, subst, ◌∙◌, arith}
use Rattle.std.specs.Option.{IfSome, unwrap_or}
use Rattle.std.specs.Prelude.{IsSomeAnd}
use Rattle.std.specs.List.{Contains, AllByRecursion}
use Rattle.std.proofs.lemmas.List.{length-map, length-replicate, get_or-replicate}
use Rattle.page_base.specs.Backings.{Backing, in_memory, in_file, in_files}
use Rattle.page_base.specs.Lanes.{Origin, LaneSeen}
use Rattle.page_base.specs.declared.layout.Layout.{Layout}
use Rattle.store_trait.specs.Memory.{told_by, page_bytes}
use Rattle.file_store.specs.Parts.{PartName, WhereTold}
use Rattle.file_store.specs.Shelves.{File, Shelf, FolderSeen, file_at}
use Rattle.file_store.specs.Folders.{Suffices}
use Rattle.region_table.specs.Regions.{NamedRegion}
use Rattle.page_base.specs.ListSeen.{ListSeen}
use Rattle.serial_pager.specs.Pagers.{rows_by}
use Rattle.region_lanes.specs.declared.open.LaneStop.{LaneStop}
use Rattle.script_run.specs.Contents.{no_lane}
use Rattle.script_run.specs.FitsSerial.{lane_at}
use Rattle.region_lanes.specs.Closings.{rows_flat, IsOut, HasPart, AllOut, AreTheirParts, ClosesAll}
use Rattle.region_lanes.specs.Laws.{AreApart}
use Rattle.region_lanes.specs.Regions.{region_origin, AreLanes, AreOpened, IsOpenedIn, TellsShare, bytes_in, first_bytes, OpensWell, ShowsAt, StopsAt, TakesOut, HasSame}
use Rattle.region_lanes.specs.InsideOpened.{HasGoodSize, AreGood, HasOut, OpensFirst}
use Rattle.region_lanes.proofs.Lists.{got_at, inside_of, slice_get_at, taken_at, take_at, take_len, take_whole, in_left, in_right, in_at}
use Rattle.region_lanes.proofs.Ends.{all_rows}
use Rattle.region_lanes.proofs.Distinct.{lanes_distinct}
use Rattle.region_lanes.proofs.NoneOut.{out_in_turn, none_out}
use Rattle.region_lanes.proofs.Fresh.{FreshIn, AllFresh, all_same}

-- ---- no region yet

nothing_at : (n s : ℕ) (rows : List (List LaneSeen)) → rows ≡ replicate n [] → length (slice_index_or rows s []) ≡ 0
nothing_at n s rows e = ap (λ (xs : List (List LaneSeen)). length (slice_index_or xs s [])) e ∙ none n s
  where
    none : (n s : ℕ) → length (slice_index_or (replicate {A = List LaneSeen} n []) s []) ≡ 0
    none zero s = refl
    none (suc n) zero = refl
    none (suc n) (suc s) = none n s

none_taken : (regions : List NamedRegion) (r : ℕ) (g : NamedRegion) → slice_get (take 0 regions) r ≡ Some g → ⊥
none_taken regions r g e = let at = taken_at regions 0 r g e in omega (arith, at.0)

pub begins : (layout : Layout) (regions : List NamedRegion) (rows : List (List LaneSeen)) (old : FolderSeen) → rows ≡ replicate layout.stripes [] → IfSome old.told (λ s. s.out ≡ []) → OpensFirst 0 layout regions rows old old
begins layout regions rows old empty none = record {
  few = omega arith;
  opened = record {
    lanes = record {
      count = ap length empty ∙ length-replicate layout.stripes [];
      width = λ s h. nothing_at layout.stripes s rows empty ∙ sym (take_len regions 0 (omega arith));
      origin = λ s r g h known. absurd (none_taken regions r g known);
    };
    fresh = λ s r h k. absurd (omega (arith, k, take_len regions 0 (omega arith)));
    tells = λ s r g h known. absurd (none_taken regions r g known);
    well = wells old.told;
  };
  out = outs old.told none;
}
  where
    wells : (t : Option Shelf) → IfSome t (λ shelf. (r : ℕ) (g : NamedRegion) → slice_get (take 0 regions) r ≡ Some g → OpensWell shelf.files g.backing g.size)
    wells None = tt
    wells (Some shelf) = λ r g known. absurd (none_taken regions r g known)

    outs : (t : Option Shelf) → IfSome t (λ s. s.out ≡ []) → WhereTold (HasOut layout.stripes 0 rows) t t
    outs None none = tt
    outs (Some s) none = record {
      files = refl;
      out = λ s r h k. absurd (omega (arith, k));
      no_other = λ x has. absurd (empty_out s.out none has);
    }
      where
        empty_out : (out : List PartName) → out ≡ [] → {x : PartName} → Contains out x → ⊥
        empty_out out e {x} has = omega (arith, has.1, ap length e)

-- ---- whose parts are out

in_rows : (rows : List (List LaneSeen)) (s r : ℕ) → s < length rows → r < length (slice_index_or rows s []) → Contains (rows_flat rows) (lane_at rows s r)
in_rows [] s r h k = absurd (omega (arith, h))
in_rows (row ∷ rows) zero r h k = in_left row (rows_flat rows) (slice_index_or row r no_lane) (in_at row r no_lane k)
in_rows (row ∷ rows) (suc s) r h k = in_right row (rows_flat rows) (lane_at rows s r) (in_rows rows s r (omega (arith, h)) k)

apart_first : (k : ℕ) (regions : List NamedRegion) → AreApart regions → AreApart (take k regions)
apart_first k regions apart q r g h path at_q at_r in_g in_h = apart q r g h path (taken_at regions k q g at_q).1 (taken_at regions k r h at_r).1 in_g in_h

module _ (k : ℕ) (layout : Layout) (regions : List NamedRegion) (rows : List (List LaneSeen)) (old new : FolderSeen) (good : AreGood layout.page_size regions) (opens : OpensFirst k layout regions rows old new) where
  lanes : AreLanes layout.page_size layout.stripes (take k regions) rows
  lanes = opens.opened.lanes

  count : length (take k regions) ≡ k
  count = take_len regions k opens.few

  theirs : (s t : Shelf) → HasOut layout.stripes k rows s t → AreTheirParts (rows_flat rows) t.out
  theirs s t out = record {
    in_turn = out_in_turn (rows_flat rows) t.out
        (all_rows (λ (l : LaneSeen). IsOut l t.out) rows (λ s r h j. let in_n : s < layout.stripes = omega (arith, h, lanes.count) in out.out s r in_n (omega (arith, j, lanes.width s in_n, count))))
        (lanes_distinct layout.page_size layout.stripes (take k regions) rows lanes (apart_first k regions good.apart));
    no_other = λ x has.
        let its = out.no_other x has in
        (lane_at rows its.0 its.1, in_rows rows its.0 its.1 (omega (arith, its.2, lanes.count)) (omega (arith, its.3, lanes.width its.0 its.2, count)), its.4);
  }

  pub taken_out : WhereTold (TakesOut rows) old.told new.told
  taken_out = go old.told new.told opens.out
    where
      go : (t u : Option Shelf) → WhereTold (HasOut layout.stripes k rows) t u → WhereTold (TakesOut rows) t u
      go None None out = tt
      go None (Some u) out = absurd out
      go (Some t) None out = absurd out
      go (Some t) (Some u) out = record { files = out.files; parts = theirs t u out }

  pub all_out : IfSome new.told (λ s. AllOut (rows_flat rows) s.out)
  all_out = go old.told new.told opens.out
    where
      go : (t u : Option Shelf) → WhereTold (HasOut layout.stripes k rows) t u → IfSome u (λ s. AllOut (rows_flat rows) s.out)
      go t None out = tt
      go None (Some u) out = absurd out
      go (Some t) (Some u) out = (theirs t u out).in_turn

  -- ---- closed again

  fresh_in : (b : Backing) (shelf : Shelf) (g : NamedRegion) (l : LaneSeen) (s r : ℕ) → g.backing ≡ b → l.origin ≡ region_origin layout.page_size layout.stripes s r g → HasGoodSize layout.page_size g → IsOpenedIn b (Some shelf) g l → OpensWell shelf.files b g.size → FreshIn b shelf.files l
  fresh_in in_memory shelf g l s r is o size opened well = tt
  fresh_in (in_files path file) shelf g l s r is o size opened well = absurd opened
  fresh_in (in_file path) shelf g l s r is o size opened well = there (file_at shelf.files path) refl well
    where
      there : (t : Option (List ℕ)) → file_at shelf.files path ≡ t → Suffices g.size t → FreshIn (in_file path) shelf.files l
      there None e fits = absurd fits
      there (Some bytes) e fits =
          let reach : l.origin.pages * l.origin.page_size ≡ g.size = ap (λ (q : Origin). q.pages * q.page_size) o ∙ sym size.whole in
          record {
            bytes = bytes;
            there = e;
            some = omega (arith, ap (λ (q : Origin). q.page_size) o, layout.large_pages);
            fits = omega (arith, reach, fits);
            tells = opened
                ∙ ap (λ (b : Backing). told_by l.origin (page_bytes l.origin.page_size (bytes_in shelf.files b g.size))) is
                ∙ ap (λ (x : Option (List ℕ)). told_by l.origin (page_bytes l.origin.page_size (take g.size (unwrap_or x [])))) e
                ∙ ap (λ (m : ℕ). told_by l.origin (page_bytes l.origin.page_size (take m bytes))) (sym reach);
          }

  all_fresh : (shelf : Shelf) → old.told ≡ Some shelf → AllFresh shelf.files (rows_flat rows)
  all_fresh shelf is = all_rows (λ (l : LaneSeen). FreshIn l.origin.backing shelf.files l) rows (λ s r h j.
      let in_n : s < layout.stripes = omega (arith, h, lanes.count) in
      let g = got_at (take k regions) r (omega (arith, j, lanes.width s in_n)) in
      let o : (lane_at rows s r).origin ≡ region_origin layout.page_size layout.stripes s r g.0 = lanes.origin s r g.0 in_n g.1 in
      let size : HasGoodSize layout.page_size g.0 = good.size r g.0 (taken_at regions k r g.0 g.1).1 in
      let opened : IsOpenedIn g.0.backing (Some shelf) g.0 (lane_at rows s r) = subst (λ (t : Option Shelf). IsOpenedIn g.0.backing t g.0 (lane_at rows s r)) is (opens.opened.tells s r g.0 in_n g.1) in
      let well : OpensWell shelf.files g.0.backing g.0.size = subst (λ (t : Option Shelf). IfSome t (λ sh. (r : ℕ) (g : NamedRegion) → slice_get (take k regions) r ≡ Some g → OpensWell sh.files g.backing g.size)) is opens.opened.well r g.0 g.1 in
      subst (λ (b : Backing). FreshIn b shelf.files (lane_at rows s r)) (sym (ap (λ (q : Origin). q.backing) o)) (fresh_in g.0.backing shelf g.0 (lane_at rows s r) s r refl o size opened well))

  pub as_before : (closed : Option Shelf) → IfSome old.told (λ s. s.out ≡ []) → WhereTold (ClosesAll (rows_flat rows)) new.told closed → WhereTold HasSame old.told closed
  as_before closed none closes = go old.told new.told closed refl none opens.out closes
    where
      go : (t u v : Option Shelf) → old.told ≡ t → IfSome t (λ s. s.out ≡ []) → WhereTold (HasOut layout.stripes k rows) t u → WhereTold (ClosesAll (rows_flat rows)) u v → WhereTold HasSame t v
      go None None None is none out closes = tt
      go None None (Some v) is none out closes = absurd closes
      go None (Some u) v is none out closes = absurd out
      go (Some t) None v is none out closes = absurd out
      go (Some t) (Some u) None is none out closes = absurd closes
      go (Some t) (Some u) (Some v) is none out closes = record {
        files = all_same (rows_flat rows) t.files u v (all_fresh t is) (λ path. ap (λ (fs : List File). file_at fs path) out.files) closes;
        out = none_out (rows_flat rows) u v (theirs t u out).no_other closes ∙ sym none;
      }

-- ---- all regions, and the one that refused

pub all_opened : (k : ℕ) (layout : Layout) (regions : List NamedRegion) (rows : List (List LaneSeen)) (old new : FolderSeen) → k ≡ length regions → OpensFirst k layout regions rows old new → AreOpened old.told layout.page_size layout.stripes regions rows
all_opened k layout regions rows old new all opens =
    subst (λ (gs : List NamedRegion). AreOpened old.told layout.page_size layout.stripes gs rows) (ap (λ (m : ℕ). take m regions) all ∙ take_whole regions) opens.opened

pub stops : (layout : Layout) (regions : List NamedRegion) (rows : List (List LaneSeen)) (old new : FolderSeen) (stop : LaneStop) → OpensFirst stop.region layout regions rows old new → IfSome old.told (λ s. ShowsAt s.files (slice_get regions stop.region) stop.fault) → IfSome old.told (λ s. StopsAt regions stop s.files)
stops layout regions rows old new stop opens shows = go old.told shows opens.opened.well
  where
    go : (t : Option Shelf) → IfSome t (λ s. ShowsAt s.files (slice_get regions stop.region) stop.fault) → IfSome t (λ s. (r : ℕ) (g : NamedRegion) → slice_get (take stop.region regions) r ≡ Some g → OpensWell s.files g.backing g.size) → IfSome t (λ s. StopsAt regions stop s.files)
    go None shows well = tt
    go (Some s) shows well = record { shows = shows; before = λ r g below known. well r g (take_at regions stop.region r g below known) }

-- the rows that a slice of a `Vec` was lent
pub lent_back : {X : Type 0} (xs new : List X) (n : ℕ) → n ≡ length new → take n (new ++ drop (length new) xs) ≡ new
lent_back xs new n e = ap (λ (m : ℕ). take m (new ++ drop (length new) xs)) e ∙ front new (drop (length new) xs)
  where
    front : {X : Type 0} (ys zs : List X) → take (length ys) (ys ++ zs) ≡ ys
    front [] zs = refl
    front (y ∷ ys) zs = ap (λ t. y ∷ t) (front ys zs)

pub rows_long : {S : Type 0} (seen : S → LaneSeen) (rows : List (ListSeen S)) (n : ℕ) → length (rows_by seen rows) ≡ n → length rows ≡ n
rows_long {S} seen rows n e = sym (length-map rows (λ (row : ListSeen S). map seen row.items)) ∙ e
