-- What a run over memory and files leaves, once its lanes are closed.
use Rattle.std.proofs.Common.{◌≡◌, inl, inr, ℕ, zero, suc, ◌+◌, ◌*◌, ◌/◌, ◌%◌, ◌<◌, ◌≤◌, Bool, true, false, ◌||◌, List, [], ◌∷◌, ◌++◌, length, map, take, drop, replicate, get_or, slice_get, Option, Some, None, is_some, refl, sym, ap, subst, ◌∙◌, arith, length-append}
use Rattle.std.specs.Option.{IfSome, unwrap_or}
use Rattle.std.specs.List.{Contains, list_any, list_all, range_with_len, enumerate_from}
use Rattle.std.proofs.lemmas.Bool.{cases_Bool}
use Rattle.std.proofs.lemmas.List.{same_lists, length-map, length-replicate, length-take-le, take-append-drop, get_or_past}
use Rattle.std.proofs.lemmas.List.FromFn.{length-enumerate_from}
use Rattle.std.proofs.lemmas.Slice.Eq.{bytes_eq-Decides}
use Rattle.page_base.specs.Backings.{Backing, in_memory, in_file, in_files}
use Rattle.page_base.specs.Lanes.{Origin, LaneSeen, Rose, told_at}
use Rattle.page_base.specs.declared.layout.Layout.{Layout}
use Rattle.file_store.specs.Parts.{WhereTold}
use Rattle.file_store.specs.Shelves.{File, Shelf, FolderSeen, file_at}
use Rattle.file_store.specs.Folders.{Suffices}
use Rattle.region_table.specs.Regions.{NamedRegion}
use Rattle.workload_text.specs.Line.{Line}
use Rattle.workload_text.specs.Grammar.{Region, size_at}
use Rattle.workload_text.specs.Accepted.{AllFit, regions_of}
use Rattle.flat_lines.specs.FlatRegions.{bytes_at}
use Rattle.script_run.specs.Serial.{serial_text, serial_end}
use Rattle.script_run.specs.Contents.{pages_in, origins_of, page_told, contents_of}
use Rattle.script_run.specs.Fits.{FitLanes, has_whole_pages}
use Rattle.script_run.specs.FitsLaws.{WithoutFaults, AllTold}
use Rattle.script_run.specs.FitsSerial.{spread_of, lane_at, region_is_told, EndSeen, FitsSerial}
use Rattle.script_run.specs.Tables.{regions_seen}
use Rattle.script_run.specs.Tellings.{TellsBytes, StayTold, ToldIsHeld, FlagIsCounted}
use Rattle.region_lanes.specs.Closings.{rows_flat, is_at, any_fault, AreTheirParts, AreAllOut, ClosesAll}
use Rattle.region_lanes.specs.Regions.{CanBeOpened, NoPartIsOut, AreLanes, TellContents, bytes_in, first_bytes, IsOpenedIn, OpensWell, AreOpened, TakesOut, AreTakenOut, HasSame, IsAsBefore}
use Rattle.region_lanes.specs.Laws.{AreApart, RulesKeepApart, OpenedLanesTell, FilesHoldTheTold, NoPartStays, OtherFilesStay, PartsAreByOrigins, LanesAreByOrigins}
use Rattle.umapsh.specs.Runs.{is_memory, tells_all, files_of, first_contents, KeepsIn, Leaves, LeavesTold, RunsPlainly}
use Rattle.umapsh.proofs.Lists.{got_at, inside_of, read_at, mapped_at, any_false, any_true, all_true, if_some, where_told, where_told_then}
use Rattle.umapsh.proofs.Lanes.{lane_of_all, fault_at}
use Rattle.umapsh.proofs.RegionLines.{as_many, size_of, whole_of}

-- the laws of the crates below that these rest on
pub record LaneLaws : Type 0 where
  pub tell : OpenedLanesTell
  pub hold : FilesHoldTheTold
  pub others : OtherFilesStay
  pub none : NoPartStays
  pub apart : RulesKeepApart
  pub parts : PartsAreByOrigins
  pub lanes : LanesAreByOrigins
  pub plain : WithoutFaults
  pub held : ToldIsHeld
  pub counted : FlagIsCounted

-- ---- files

suffices_at : (size : ℕ) (o : Option (List ℕ)) (before : List ℕ) → Suffices size o → o ≡ Some before → size ≤ length before
suffices_at size None before h e = absurd h
suffices_at size (Some b) before h e = let same : b ≡ before = cc in subst (λ (x : List ℕ). size ≤ length x) same h

there_by : (size : ℕ) (o : Option (List ℕ)) → Suffices size o → (before : List ℕ) × (o ≡ Some before) × (size ≤ length before)
there_by size None h = absurd h
there_by size (Some b) h = (b, refl, h)

in_file_at : (path : List ℕ) (b : Backing) → is_at path b ≡ true → b ≡ in_file path
in_file_at path in_memory e = absurd (cc)
in_file_at path (in_file own) e = ap in_file ((bytes_eq-Decides own path).0 e)
in_file_at path (in_files own file) e = absurd (cc)

-- the file of a region that was opened is there, and long enough
well_there : (files : List File) (size : ℕ) (path : List ℕ) (b : Backing) → b ≡ in_file path → OpensWell files b size → (before : List ℕ) × (file_at files path ≡ Some before) × (size ≤ length before)
well_there files size path b e well = there_by size (file_at files path) (subst (λ (x : Backing). OpensWell files x size) e well)

module _ (laws : LaneLaws) (layout : Layout) (lines : List Line) (can : CanBeOpened layout.page_size lines) where
  apart : AreApart (regions_seen lines)
  apart = laws.apart layout.page_size (regions_seen lines) can.rules

  some_bytes : 0 < layout.page_size
  some_bytes = omega (arith, layout.large_pages)

  some_stripe : 0 < layout.stripes
  some_stripe = omega (arith, layout.some_stripe)

  -- ---- closing

  module _ (rows : List (List LaneSeen)) (lanes : AreLanes layout.page_size layout.stripes (regions_seen lines) rows) (whole : has_whole_pages layout.page_size (regions_of lines) ≡ true)
      (s0 s1 s2 : Shelf) (same : s1.files ≡ s0.files) (closes : ClosesAll (rows_flat rows) s1 s2) (well : (r : ℕ) (g : NamedRegion) → slice_get (regions_seen lines) r ≡ Some g → OpensWell s0.files g.backing g.size) where
    known : (r : ℕ) (g : NamedRegion) → slice_get (regions_seen lines) r ≡ Some g → r < length (regions_of lines)
    known r g at = omega (arith, inside_of (regions_seen lines) r g at, as_many lines)

    -- each of these lanes lies where its region does
    lane_apart : (path : List ℕ) → list_any (λ (g : NamedRegion). is_at path g.backing) (regions_seen lines) ≡ false → (l : LaneSeen) → Contains (rows_flat rows) l → is_at path l.origin.backing ≡ false
    lane_apart path none l has =
        let at = lane_of_all rows l has in
        let stripe : at.s < layout.stripes = omega (arith, at.stripe, lanes.count) in
        let g = got_at (regions_seen lines) at.r (omega (arith, at.region, lanes.width at.s stripe)) in
        ap (λ (x : LaneSeen). is_at path x.origin.backing) (sym at.is)
        ∙ ap (λ (o : Origin). is_at path o.backing) (lanes.origin at.s at.r g.0 stripe g.1)
        ∙ any_false (λ (x : NamedRegion). is_at path x.backing) (regions_seen lines) at.r g.0 none g.1

    others_stay : (path : List ℕ) → list_any (λ (g : NamedRegion). is_at path g.backing) (regions_seen lines) ≡ false → file_at s2.files path ≡ file_at s0.files path
    others_stay path none = laws.others path (rows_flat rows) s1 s2 (lane_apart path none) closes ∙ ap (λ (fs : List File). file_at fs path) same

    -- these contents are told of each region in a file
    abbrev AreTold : List (List ℕ) → Type 0
    AreTold contents = (r : ℕ) (g : NamedRegion) (path : List ℕ) → slice_get (regions_seen lines) r ≡ Some g → g.backing ≡ in_file path
        → (length (bytes_at contents r) ≡ g.size) × TellContents layout.page_size layout.stripes rows r g.size (bytes_at contents r)

    kept_at : (contents : List (List ℕ)) → AreTold contents → (r : ℕ) (g : NamedRegion) → slice_get (regions_seen lines) r ≡ Some g → (b : Backing) → g.backing ≡ b → KeepsIn b g.size (bytes_at contents r) s0.files s2.files
    kept_at contents told r g at in_memory e = tt
    kept_at contents told r g at (in_files path file) e = tt
    kept_at contents told r g at (in_file path) e =
        if_some (file_at s0.files path) (λ before is.
        let its = told r g path at e in
        let there = well_there s0.files g.size path g.backing e (well r g at) in
        laws.hold layout.page_size layout.stripes (regions_seen lines) rows r g path (bytes_at contents r) before s1 s2 lanes apart some_bytes some_stripe at e
        (whole_of layout.page_size lines whole r g (known r g at) at) its.0
        (suffices_at g.size (file_at s0.files path) before (subst (λ (x : Backing). OpensWell s0.files x g.size) e (well r g at)) is)
        (ap (λ (fs : List File). file_at fs path) same ∙ is) its.1 closes)

    pub leaves : (contents : List (List ℕ)) → AreTold contents → Leaves (regions_seen lines) contents s0 s2
    leaves contents told = record {
      kept = λ r g at. kept_at contents told r g at g.backing refl;
      others = others_stay;
    }

    -- what was told at first leaves the files as they were
    pub as_before : (contents : List (List ℕ)) → AreTold contents → ((r : ℕ) (g : NamedRegion) → slice_get (regions_seen lines) r ≡ Some g → bytes_at contents r ≡ first_bytes s0.files g) → (path : List ℕ) → file_at s2.files path ≡ file_at s0.files path
    as_before contents told first path = elim (cases_Bool (list_any (λ (g : NamedRegion). is_at path g.backing) (regions_seen lines))) [
      | inr none ↦ others_stay path none
      | inl some ↦
          let x = any_true (λ (g : NamedRegion). is_at path g.backing) (regions_seen lines) some in
          let g : NamedRegion = x.1 in
          let e : g.backing ≡ in_file path = in_file_at path g.backing x.3 in
          let there = well_there s0.files g.size path g.backing e (well x.0 g x.2) in
          let kept : KeepsIn (in_file path) g.size (bytes_at contents x.0) s0.files s2.files = kept_at contents told x.0 g x.2 (in_file path) e in
          let now : file_at s2.files path ≡ Some (bytes_at contents x.0 ++ drop g.size there.0) = subst (λ (o : Option (List ℕ)). IfSome o (λ before. file_at s2.files path ≡ Some (bytes_at contents x.0 ++ drop g.size before))) there.1 kept in
          let front : bytes_at contents x.0 ≡ take g.size there.0 =
          first x.0 g x.2
          ∙ ap (λ (b : Backing). bytes_in s0.files b g.size) e
          ∙ ap (λ (o : Option (List ℕ)). take g.size (unwrap_or o [])) there.1 in
          now ∙ ap (λ (xs : List ℕ). Some (xs ++ drop g.size there.0)) front ∙ ap (λ (xs : List ℕ). Some xs) (take-append-drop g.size there.0) ∙ sym there.1
    ]

  -- ---- what the regions hold at first

  -- the same lanes, with no file told, where no region lies in one
  module _ (told : Option Shelf) (rows : List (List LaneSeen)) (opened : AreOpened told layout.page_size layout.stripes (regions_seen lines) rows) (fit : FitLanes layout (regions_of lines) rows) where
    in_memory_told : (b : Backing) (g : NamedRegion) (l : LaneSeen) (s : Shelf) → is_memory b ≡ true → IsOpenedIn b None g l → IsOpenedIn b (Some s) g l
    in_memory_told in_memory g l s m h = h
    in_memory_told (in_file path) g l s m h = absurd (cc)
    in_memory_told (in_files path file) g l s m h = absurd (cc)

    in_memory_well : (files : List File) (b : Backing) (size : ℕ) → is_memory b ≡ true → OpensWell files b size
    in_memory_well files in_memory size m = tt
    in_memory_well files (in_file path) size m = absurd (cc)
    in_memory_well files (in_files path file) size m = absurd (cc)

    first_long : (files : List File) (b : Backing) (size : ℕ) → OpensWell files b size → length (bytes_in files b size) ≡ size
    first_long files in_memory size well = length-replicate size 0
    first_long files (in_files path file) size well = absurd well
    first_long files (in_file path) size well =
        let there = there_by size (file_at files path) well in
        ap (λ (o : Option (List ℕ)). length (take size (unwrap_or o []))) there.1 ∙ length-take-le size there.0 there.2

    -- files of which all is told
    record IsAllTold : Type 0 where
      shelf : Shelf
      files : shelf.files ≡ files_of told
      opened_on : AreOpened (Some shelf) layout.page_size layout.stripes (regions_seen lines) rows

    none_told : Shelf
    none_told = record { files = []; out = [] }

    all_by : (t : Option Shelf) → told ≡ t → is_some t || list_all (λ (g : NamedRegion). is_memory g.backing) (regions_seen lines) ≡ true → IsAllTold
    all_by (Some s) e all = record { shelf = s; files = ap files_of (sym e); opened_on = subst (λ (o : Option Shelf). AreOpened o layout.page_size layout.stripes (regions_seen lines) rows) e opened }
    all_by None e all =
        let s : Shelf = record { files = []; out = [] } in
        let was : AreOpened None layout.page_size layout.stripes (regions_seen lines) rows = subst (λ (o : Option Shelf). AreOpened o layout.page_size layout.stripes (regions_seen lines) rows) e opened in
        record {
          shelf = s;
          files = ap files_of (sym e);
          opened_on = record {
            lanes = was.lanes;
            fresh = was.fresh;
            tells = λ n r g stripe at. in_memory_told g.backing g (lane_at rows n r) s (all_true (λ (x : NamedRegion). is_memory x.backing) (regions_seen lines) r g all at) (was.tells n r g stripe at);
            well = λ r g at. in_memory_well [] g.backing g.size (all_true (λ (x : NamedRegion). is_memory x.backing) (regions_seen lines) r g all at);
          };
        }

    module _ (all : is_some told || list_all (λ (g : NamedRegion). is_memory g.backing) (regions_seen lines) ≡ true) where
      its : IsAllTold
      its = all_by told refl all

      first_is : (r : ℕ) (g : NamedRegion) → slice_get (regions_seen lines) r ≡ Some g → first_bytes its.shelf.files g ≡ first_bytes (files_of told) g
      first_is r g at = ap (λ (fs : List File). first_bytes fs g) its.files

      pub first_size : (r : ℕ) (g : NamedRegion) → slice_get (regions_seen lines) r ≡ Some g → length (first_bytes (files_of told) g) ≡ g.size
      first_size r g at = ap length (sym (first_is r g at)) ∙ first_long its.shelf.files g.backing g.size (its.opened_on.well r g at)

      pub first_told : (r : ℕ) (g : NamedRegion) → slice_get (regions_seen lines) r ≡ Some g → TellContents layout.page_size layout.stripes rows r g.size (first_bytes (files_of told) g)
      first_told r g at = subst (TellContents layout.page_size layout.stripes rows r g.size) (first_is r g at) (laws.tell its.shelf layout.page_size layout.stripes (regions_seen lines) rows r g its.opened_on some_stripe at)

      both_held : (r : ℕ) (g : NamedRegion) → slice_get (regions_seen lines) r ≡ Some g → (bytes_at (contents_of rows) r ≡ first_bytes (files_of told) g) × (region_is_told rows r ≡ true)
      both_held r g at =
          let size = first_size r g at in
          laws.held layout (regions_of lines) rows r (first_bytes (files_of told) g) fit (omega (arith, inside_of (regions_seen lines) r g at, as_many lines)) (size ∙ sym (size_of lines r g at))
          (λ p below. first_told r g at p (subst (λ n. p < n / layout.page_size) size below))

      pub held_first : (r : ℕ) (g : NamedRegion) → slice_get (regions_seen lines) r ≡ Some g → bytes_at (contents_of rows) r ≡ first_bytes (files_of told) g
      held_first r g at = (both_held r g at).0

      pub told_first : (r : ℕ) (g : NamedRegion) → slice_get (regions_seen lines) r ≡ Some g → region_is_told rows r ≡ true
      told_first r g at = (both_held r g at).1

      count_in : length (pages_in rows) ≡ length (regions_seen lines)
      count_in =
          length-map (get_or (origins_of rows) 0 []) (λ (o : Origin). o.pages)
          ∙ ap length (row_first rows (omega (arith, opened.lanes.count, layout.some_stripe)))
          ∙ length-map (get_or rows 0 []) (λ (l : LaneSeen). l.origin)
          ∙ opened.lanes.width 0 some_stripe
        where
          row_first : (rows : List (List LaneSeen)) → 0 < length rows → get_or (origins_of rows) 0 [] ≡ map (λ (l : LaneSeen). l.origin) (get_or rows 0 [])
          row_first [] some = absurd (omega (arith, some))
          row_first (row ∷ rest) some = refl

      pub all_told : AllTold rows
      all_told r = by (slice_get (regions_seen lines) r) refl
        where
          by : (o : Option NamedRegion) → slice_get (regions_seen lines) r ≡ o → region_is_told rows r ≡ true
          by (Some g) at = told_first r g at
          by None at = ap (λ n. list_all (λ page. is_some (told_at (lane_at rows ((r + page / 1) % length rows) r).told page)) (range_with_len 0 n)) (get_or_past (pages_in rows) r 0 (past (regions_seen lines) r (omega arith) at))
            where
              past : (gs : List NamedRegion) (k : ℕ) → length gs ≡ length (regions_seen lines) → slice_get gs k ≡ None → length (pages_in rows) ≤ k
              past gs k many at = omega (arith, past_by gs k at, many, count_in)
                where
                  past_by : (gs : List NamedRegion) (k : ℕ) → slice_get gs k ≡ None → length gs ≤ k
                  past_by [] k at = omega arith
                  past_by (g ∷ gs) zero at = absurd (cc)
                  past_by (g ∷ gs) (suc k) at = omega (arith, past_by gs k at)

      pub contents_are : contents_of rows ≡ map (first_bytes (files_of told)) (regions_seen lines)
      contents_are = same_lists (contents_of rows) (map (first_bytes (files_of told)) (regions_seen lines))
          (many ∙ sym (length-map (regions_seen lines) (first_bytes (files_of told))))
          (λ k d below.
          let g = got_at (regions_seen lines) k (omega (arith, below, many)) in
          defaults (contents_of rows) k d below
          ∙ held_first k g.0 g.1
          ∙ sym (mapped_at (first_bytes (files_of told)) (regions_seen lines) k d g.0 g.1))
        where
          many : length (contents_of rows) ≡ length (regions_seen lines)
          many = length-map (enumerate_from 0 (pages_in rows)) _ ∙ length-enumerate_from 0 (pages_in rows) ∙ count_in

          defaults : (xs : List (List ℕ)) (k : ℕ) (d : List ℕ) → k < length xs → get_or xs k d ≡ get_or xs k []
          defaults [] k d h = absurd (omega (arith, h))
          defaults (x ∷ xs) zero d h = refl
          defaults (x ∷ xs) (suc k) d h = defaults xs k d (omega (arith, h))
