-- A run between the opening of its lanes and their closing.
use Rattle.std.proofs.Common.{◌≡◌, ℕ, ◌+◌, ◌/◌, ◌<◌, ◌≤◌, Bool, true, false, ◌||◌, List, [], ◌++◌, length, map, slice_get, Option, Some, None, is_some, refl, sym, ap, subst, ◌∙◌, arith}
use Rattle.std.specs.Option.{IfSome}
use Rattle.std.specs.List.{list_all}
use Rattle.page_base.specs.Backings.{in_file}
use Rattle.page_base.specs.Lanes.{LaneSeen, Rose}
use Rattle.page_base.specs.declared.layout.Layout.{Layout}
use Rattle.file_store.specs.Parts.{WhereTold}
use Rattle.file_store.specs.Shelves.{File, Shelf, FolderSeen}
use Rattle.region_table.specs.Regions.{NamedRegion}
use Rattle.workload_text.specs.Line.{Line}
use Rattle.workload_text.specs.Accepted.{regions_of}
use Rattle.flat_lines.specs.FlatRegions.{bytes_at}
use Rattle.script_run.specs.Serial.{serial_text, serial_end}
use Rattle.script_run.specs.Contents.{origins_of, contents_of}
use Rattle.script_run.specs.Fits.{FitLanes}
use Rattle.script_run.specs.FitsLaws.{IsSerial}
use Rattle.script_run.specs.FitsSerial.{spread_of, lane_at, EndSeen, FitsSerial}
use Rattle.script_run.specs.Tables.{regions_seen}
use Rattle.script_run.specs.Tellings.{StayTold}
use Rattle.region_lanes.specs.Closings.{rows_flat, any_fault, AllOut, AreAllOut, ClosesAll}
use Rattle.region_lanes.specs.Regions.{CanBeOpened, NoPartIsOut, AreLanes, TellContents, OpensWell, first_bytes, AreOpened, TakesOut, AreTakenOut, HasSame, IsAsBefore}
use Rattle.umapsh.specs.Runs.{is_memory, files_of, first_contents, KeepsIn, Leaves, LeavesTold, RunsPlainly}
use Rattle.umapsh.proofs.Lists.{inside_of, mapped_at, where_told, where_told_then}
use Rattle.umapsh.proofs.Lanes.{fault_at}
use Rattle.umapsh.proofs.RegionLines.{as_many, size_of}
use Rattle.umapsh.proofs.Closed.{LaneLaws, leaves, as_before, first_size, first_told, told_first, all_told, contents_are}

module _ (laws : LaneLaws) (layout : Layout) (lines : List Line) (can : CanBeOpened layout.page_size lines) (f0 f1 : FolderSeen) (rows : List (List LaneSeen)) (opened : AreOpened f0.told layout.page_size layout.stripes (regions_seen lines) rows) (fit : FitLanes layout (regions_of lines) rows) (out : AreTakenOut f0 f1 rows) (ends : List (List LaneSeen)) (same : origins_of ends ≡ origins_of rows) where
  all_of : (s : Shelf) → f0.told ≡ Some s → is_some f0.told || list_all (λ (g : NamedRegion). is_memory g.backing) (regions_seen lines) ≡ true
  all_of s e = ap (λ (o : Option Shelf). is_some o || list_all (λ (g : NamedRegion). is_memory g.backing) (regions_seen lines)) e

  well_of : (s : Shelf) → f0.told ≡ Some s → (r : ℕ) (g : NamedRegion) → slice_get (regions_seen lines) r ≡ Some g → OpensWell s.files g.backing g.size
  well_of s e = subst (λ (o : Option Shelf). IfSome o (λ shelf. (r : ℕ) (g : NamedRegion) → slice_get (regions_seen lines) r ≡ Some g → OpensWell shelf.files g.backing g.size)) e opened.well

  known_of : (r : ℕ) (g : NamedRegion) → slice_get (regions_seen lines) r ≡ Some g → r < length (regions_of lines)
  known_of r g at = omega (arith, inside_of (regions_seen lines) r g at, as_many lines)

  -- ---- parts

  all_out_by : (a b : Option Shelf) → WhereTold (TakesOut rows) a b → IfSome b (λ s. AllOut (rows_flat ends) s.out)
  all_out_by None None h = tt
  all_out_by None (Some b) h = absurd h
  all_out_by (Some a) None h = absurd h
  all_out_by (Some a) (Some b) h = (laws.parts rows ends b.out same h.parts).in_turn

  pub all_out : AreAllOut (rows_flat ends) f1
  all_out = all_out_by f0.told f1.told out

  none_out_by : (a b c : Option Shelf) → WhereTold (TakesOut rows) a b → WhereTold (ClosesAll (rows_flat ends)) b c → IfSome c (λ s. s.out ≡ [])
  none_out_by None None None h k = tt
  none_out_by None None (Some c) h k = absurd k
  none_out_by None (Some b) c h k = absurd h
  none_out_by (Some a) None c h k = absurd h
  none_out_by (Some a) (Some b) None h k = absurd k
  none_out_by (Some a) (Some b) (Some c) h k = laws.none (rows_flat ends) b c (laws.parts rows ends b.out same h.parts).no_other k

  module _ (f2 : FolderSeen) (closed : WhereTold (ClosesAll (rows_flat ends)) f1.told f2.told) where
    pub none_out : NoPartIsOut f2
    none_out = none_out_by f0.told f1.told f2.told out closed

    lanes_end : AreLanes layout.page_size layout.stripes (regions_seen lines) ends
    lanes_end = laws.lanes layout.page_size layout.stripes (regions_seen lines) rows ends same opened.lanes

    -- ---- files behind a run

    module _ (still : StayTold (spread_of layout) (regions_of lines) rows ends) where
      pub leaves_told : LeavesTold lines (contents_of ends) f0 f2
      leaves_told = where_told_then f0.told f1.told f2.told
          (λ s0 s1 s2 e h k.
          leaves laws layout lines can ends lanes_end fit.whole s0 s1 s2 h.files k (well_of s0 e) (contents_of ends)
          (λ r g path at b.
          let w = still r (known_of r g at) (told_first laws layout lines can f0.told rows opened fit (all_of s0 e) r g at) in
          let long : length (bytes_at (contents_of ends) r) ≡ g.size = w.size ∙ size_of lines r g at in
          (long, λ p below. w.pages p (subst (λ n. p < n / layout.page_size) (sym long) below))))
          out closed

      module _ (e : EndSeen) (fits : FitsSerial (spread_of layout) lines rows ends e) where
        pub plain : e.faulted ≡ false → RunsPlainly lines f0 f2 e.text
        plain clear = record {
          text_is = λ all. (serial all).text_is ∙ ap (λ (b : List (List ℕ)). serial_text b lines) (contents_are laws layout lines can f0.told rows opened fit all);
          files = where_told f0.told f2.told (λ s0 s2 is h. record {
            kept = λ r g at.
                subst (λ bytes. KeepsIn g.backing g.size bytes s0.files s2.files)
                ((serial (all_of s0 is)).contents r (known_of r g at) ∙ ap (λ (b : List (List ℕ)). bytes_at (serial_end b lines) r) (contents_are laws layout lines can f0.told rows opened fit (all_of s0 is)))
                (h.kept r g at);
            others = h.others;
          }) leaves_told;
        }
          where
            serial : is_some f0.told || list_all (λ (g : NamedRegion). is_memory g.backing) (regions_seen lines) ≡ true → IsSerial lines rows ends e.text
            serial all = laws.plain (spread_of layout) lines rows ends e (omega (arith, layout.some_stripe)) fits (all_told laws layout lines can f0.told rows opened fit all) clear

        pub rose : f0.count ≤ f1.count → (any_fault (rows_flat ends) ≡ true → Rose f1.count f2.count) → e.faulted ≡ true → Rose f0.count f2.count
        rose later shows faulted =
            let x = laws.counted (spread_of layout) lines rows ends e (omega (arith, layout.some_stripe)) can.runnable.fit fits faulted in
            let fresh : (lane_at rows x.0 x.1).count ≡ 0 = opened.fresh x.0 x.1 x.2 (omega (arith, x.3, as_many lines)) in
            omega (arith, later, shows (fault_at ends x.0 x.1 (omega (arith, x.4, fresh))))

    -- ---- files where nothing ran

    module _ (none0 : NoPartIsOut f0) (unrun : ends ≡ rows) where
      first : (s : Shelf) → List (List ℕ)
      first s = map (first_bytes s.files) (regions_seen lines)

      out_before : (s : Shelf) → f0.told ≡ Some s → s.out ≡ []
      out_before s e = subst (λ (o : Option Shelf). IfSome o (λ x. x.out ≡ [])) e none0

      pub unchanged : IsAsBefore f0 f2
      unchanged = where_told_then f0.told f1.told f2.told
          (λ s0 s1 s2 e h k. record {
            files = as_before laws layout lines can rows opened.lanes fit.whole s0 s1 s2 h.files (subst (λ (xs : List (List LaneSeen)). ClosesAll (rows_flat xs) s1 s2) unrun k) (well_of s0 e) (map (first_bytes s0.files) (regions_seen lines))
                (λ r g path at b.
                let of_told : first_bytes (files_of f0.told) g ≡ first_bytes s0.files g = ap (λ (o : Option Shelf). first_bytes (files_of o) g) e in
                let is : bytes_at (map (first_bytes s0.files) (regions_seen lines)) r ≡ first_bytes (files_of f0.told) g = mapped_at (first_bytes s0.files) (regions_seen lines) r [] g at ∙ sym of_told in (
                  ap length is ∙ first_size laws layout lines can f0.told rows opened fit (all_of s0 e) r g at,
                  subst (λ (bytes : List ℕ). TellContents layout.page_size layout.stripes rows r g.size bytes) (sym is) (first_told laws layout lines can f0.told rows opened fit (all_of s0 e) r g at),
                ))
                (λ r g at. mapped_at (first_bytes s0.files) (regions_seen lines) r [] g at);
            out = laws.none (rows_flat ends) s1 s2 (laws.parts rows ends s1.out same h.parts).no_other k ∙ sym (out_before s0 e);
          })
          out closed
