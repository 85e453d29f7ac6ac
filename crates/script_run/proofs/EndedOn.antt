-- The lanes of a pager that ends.
use Rattle.std.proofs.Common.{◌≡◌, ℕ, ◌<◌, List, [], length, map, Some, slice_get, sym, ap, ◌∙◌, arith}
use Rattle.std.specs.Option.{option_map}
use Rattle.std.proofs.lemmas.List.{length-map}
use Rattle.std.proofs.lemmas.Option.{slice_get_within, slice_get-map, get_or_from_slice_get}
use Rattle.page_base.specs.Lanes.{Origin, LaneSeen}
use Rattle.page_model.specs.Core.{Core}
use Rattle.page_model.specs.Setups.{Setup}
use Rattle.serial_pager.specs.Seen.{StripeSeen}
use Rattle.serial_pager.specs.Pagers as pagers
use Rattle.serial_pager.specs.Pagers.{PagerSeen, AreLanesOfCore, AreRowsOf, core_in, core_at}
use Rattle.workload_text.specs.Grammar.{Region}
use Rattle.script_run.specs.Contents.{origins_of}
use Rattle.script_run.specs.Fits.{FitLanes}
use Rattle.script_run.specs.FitsJournals.{setup_at}
use Rattle.script_run.specs.FitsSerial.{spread_of}
use Rattle.script_run.specs.InsideRunning.{IsShaped, shape_of}
use Rattle.script_run.specs.declared.settings.Settings.{Settings}
use Rattle.script_run.proofs.FittedLanes.{there, row_len}
use Rattle.script_run.proofs.Lists.{same_items, some_is}

-- a pager z whose stripes were made over these rows, and which ended with these
module _ {J : Type 0} (c : Settings) (gs : List Region) (rows ends : List (List LaneSeen)) (fit : FitLanes c.layout gs rows) (z : PagerSeen J) (shaped : IsShaped (spread_of c.layout) gs z) (made : (s : ℕ) → s < c.layout.stripes → pagers.setup_at z s ≡ Some (setup_at c z.shapes rows s)) (are : AreRowsOf z ends) where
  ends_len : length ends ≡ length rows
  ends_len = are.count ∙ shaped.stripes ∙ sym fit.stripes

  -- what is there of one stripe
  pub record EndAt (s : ℕ) : Type 0 where
    pub row : List LaneSeen
    pub end : List LaneSeen
    pub stripe : StripeSeen J
    pub was : slice_get rows s ≡ Some row
    pub is : slice_get ends s ≡ Some end
    pub at : slice_get z.stripes s ≡ Some stripe
    pub setup : stripe.core.setup ≡ setup_at c z.shapes rows s
    pub lanes : AreLanesOfCore stripe.core end
    pub kept : stripe.core.setup.lanes ≡ row
    pub row_long : length row ≡ length gs
    pub end_long : length end ≡ length gs

  pub end_at : (s : ℕ) → s < length rows → EndAt s
  end_at s below =
      let row = there rows s below in
      let end = there ends s (omega (arith, below, ends_len)) in
      let x = there z.stripes s (omega (arith, below, ends_len, are.count)) in
      let core : Core = x.0.core in
      let at : core_at z s ≡ Some core = ap core_in x.1 in
      let setup : core.setup ≡ setup_at c z.shapes rows s =
      let two : Some core.setup ≡ Some (setup_at c z.shapes rows s) = sym (ap (option_map (λ (y : Core). y.setup)) at) ∙ made s (omega (arith, below, fit.stripes)) in cc in
      let lanes : AreLanesOfCore core end.0 = are.each s end.0 core end.1 at in
      let shapes : length core.setup.shapes ≡ length gs = ap (λ (u : Setup). length u.shapes) setup ∙ ap length shaped.shapes ∙ length-map gs (shape_of c.layout.page_size) in
      record {
        row = row.0;
        end = end.0;
        stripe = x.0;
        was = row.1;
        is = end.1;
        at = x.1;
        setup = setup;
        lanes = lanes;
        kept = ap (λ (u : Setup). u.lanes) setup ∙ get_or_from_slice_get rows s row.0 [] row.1;
        row_long = ap length (sym (get_or_from_slice_get rows s row.0 [] row.1)) ∙ row_len c.layout gs rows fit s below;
        end_long = lanes.count ∙ shapes;
      }

  -- ---- origins

  row_origins : (s : ℕ) (e : EndAt s) → map (λ (l : LaneSeen). l.origin) e.end ≡ map (λ (l : LaneSeen). l.origin) e.row
  row_origins s e = same_items (map (λ (l : LaneSeen). l.origin) e.end) (map (λ (l : LaneSeen). l.origin) e.row)
      (length-map e.end (λ (l : LaneSeen). l.origin) ∙ e.end_long ∙ sym (length-map e.row (λ (l : LaneSeen). l.origin) ∙ e.row_long))
      (λ r o at.
      let below : r < length e.end = omega (arith, slice_get_within (map (λ (l : LaneSeen). l.origin) e.end) r o at, length-map e.end (λ (l : LaneSeen). l.origin)) in
      let lane = there e.end r below in
      let is : lane.0.origin ≡ o = some_is (sym (slice_get-map (λ (l : LaneSeen). l.origin) e.end r ∙ ap (option_map (λ (l : LaneSeen). l.origin)) lane.1) ∙ at) in
      slice_get-map (λ (l : LaneSeen). l.origin) e.row r
      ∙ ap (λ (ls : List LaneSeen). option_map (λ (l : LaneSeen). l.origin) (slice_get ls r)) (sym e.kept)
      ∙ e.lanes.origin r lane.0 lane.1
      ∙ ap (λ (x : Origin). Some x) is)

  pub origins_kept : origins_of ends ≡ origins_of rows
  origins_kept = same_items (origins_of ends) (origins_of rows)
      (length-map ends (λ (row : List LaneSeen). map (λ (l : LaneSeen). l.origin) row) ∙ ends_len ∙ sym (length-map rows (λ (row : List LaneSeen). map (λ (l : LaneSeen). l.origin) row)))
      (λ s os at.
      let below : s < length rows = omega (arith, slice_get_within (origins_of ends) s os at, length-map ends (λ (row : List LaneSeen). map (λ (l : LaneSeen). l.origin) row), ends_len) in
      let e : EndAt s = end_at s below in
      let is : map (λ (l : LaneSeen). l.origin) e.end ≡ os = some_is (sym (slice_get-map (λ (row : List LaneSeen). map (λ (l : LaneSeen). l.origin) row) ends s ∙ ap (option_map (λ (row : List LaneSeen). map (λ (l : LaneSeen). l.origin) row)) e.is) ∙ at) in
      slice_get-map (λ (row : List LaneSeen). map (λ (l : LaneSeen). l.origin) row) rows s
      ∙ ap (option_map (λ (row : List LaneSeen). map (λ (l : LaneSeen). l.origin) row)) e.was
      ∙ ap (λ (x : List Origin). Some x) (sym (row_origins s e) ∙ is))
