-- The pages of a region as the stripes were made with them.
use Rattle.std.proofs.Common.{◌≡◌, inl, inr, ℕ, zero, suc, ◌/◌, ◌<◌, true, List, [], ◌∷◌, length, map, get_or, Option, Some, slice_get, refl, sym, ap, ◌∙◌, arith}
use Rattle.std.proofs.lemmas.Bool.{cases_lt, and_from, eq-eqb, lt-ltb}
use Rattle.std.proofs.lemmas.List.{length-map, get_or_past}
use Rattle.std.proofs.lemmas.Option.{get_or_from_slice_get}
use Rattle.page_base.specs.Lanes.{LaneSeen}
use Rattle.page_base.specs.Pages.{stripe_of}
use Rattle.page_base.specs.declared.keys.RegionShape.{RegionShape}
use Rattle.page_model.specs.Setups as setups
use Rattle.page_model.specs.Setups.{Setup, base_of, told_in, count_by, first_count, may_write}
use Rattle.workload_text.specs.Grammar.{Region, writable_at}
use Rattle.flat_lines.specs.Spreads.{range_key}
use Rattle.script_run.specs.Contents.{no_lane, page_told}
use Rattle.script_run.specs.Fits.{FitLanes, page_counts}
use Rattle.script_run.specs.FitsJournals.{setup_at}
use Rattle.script_run.specs.FitsSerial.{lane_at, region_is_told}
use Rattle.script_run.specs.InsideRunning.{shape_of}
use Rattle.script_run.specs.declared.settings.Settings.{Settings}
use Rattle.script_run.proofs.FittedLanes.{there, shape_at, row_len}
use Rattle.script_run.proofs.ToldPages.{told_page}

-- a region that has a page is there
pub region_known : (z : ℕ) (gs : List Region) (r page : ℕ) → page < get_or (page_counts z gs) r 0 → r < length gs
region_known z gs r page below = elim (cases_lt r (length gs)) [
  | inl lt ↦ lt
  | inr past ↦ absurd (omega (arith, below, get_or_past (page_counts z gs) r 0 (omega (arith, past, length-map gs (λ (g : Region). g.size / z)))))
]

-- a region may be stored to as its line says
pub writable_is : (z : ℕ) (gs : List Region) (r : ℕ) → may_write (slice_get (map (shape_of z) gs) r) ≡ writable_at gs r
writable_is z [] r = refl
writable_is z (g ∷ gs) zero = refl
writable_is z (g ∷ gs) (suc r) = writable_is z gs r

module _ (c : Settings) (gs : List Region) (rows : List (List LaneSeen)) (fit : FitLanes c.layout gs rows) (shapes : List RegionShape) (r : ℕ) (known : r < length gs) where
  -- a lane begins with its own count
  pub first_is : (s : ℕ) → s < length rows → first_count (setup_at c shapes rows s) r ≡ (lane_at rows s r).count
  first_is s below =
      let lane = there (get_or rows s []) r (omega (arith, known, row_len c.layout gs rows fit s below)) in
      ap count_by lane.1 ∙ ap (λ (l : LaneSeen). l.count) (sym (get_or_from_slice_get (get_or rows s []) r lane.0 no_lane lane.1))

  module _ (page : ℕ) (below : page < get_or (page_counts c.layout.page_size gs) r 0) where
    pub has_it : shapes ≡ map (shape_of c.layout.page_size) gs → setups.has_page (setup_at c shapes rows (stripe_of c.layout.stripes 1 r page)) (range_key r page) ≡ true
    has_it are =
        let u : Setup = setup_at c shapes rows (stripe_of c.layout.stripes 1 r page) in
        let shape = there (map (shape_of c.layout.page_size) gs) r (omega (arith, known, length-map gs (shape_of c.layout.page_size))) in
        let is = shape_at c.layout.page_size gs r shape.0 shape.1 in
        ap (λ (ss : List RegionShape). setups.is_page_of u (slice_get ss r) (range_key r page)) are
        ∙ ap (λ (o : Option RegionShape). setups.is_page_of u o (range_key r page)) shape.1
        ∙ and_from _ _ (lt-ltb page shape.0.pages (omega (arith, below, is.pages))) (eq-eqb _ _ (ap (λ g. stripe_of c.layout.stripes g r page) is.group))

    pub base_is : region_is_told rows r ≡ true → base_of (setup_at c shapes rows (stripe_of c.layout.stripes 1 r page)) (range_key r page) ≡ Some (page_told rows r page)
    base_is told =
        let t = told_page c.layout gs rows fit r known told page below in
        let s : ℕ = stripe_of c.layout.stripes 1 r page in
        let at : slice_get rows s ≡ Some t.row = ap (λ n. slice_get rows (stripe_of n 1 r page)) (sym fit.stripes) ∙ t.at in
        ap (λ (ls : List LaneSeen). told_in (slice_get ls r) page) (get_or_from_slice_get rows s t.row [] at) ∙ ap (λ (o : Option LaneSeen). told_in o page) t.here ∙ t.tells
