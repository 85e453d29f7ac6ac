-- Lanes that tell the bytes of a region: what they hold, and that a run leaves them telling.
use Rattle.std.proofs.Common.{◌≡◌, ℕ, ◌+◌, ◌*◌, ◌/◌, ◌%◌, ◌<◌, true, List, [], ◌∷◌, length, map, get_or, Option, Some, is_some, refl, sym, ap, ◌∙◌, arith}
use Rattle.std.specs.Option.{unwrap_or}
use Rattle.std.proofs.lemmas.List.{length-map, take_all}
use Rattle.std.proofs.lemmas.Nat.{mod_below}
use Rattle.std.proofs.lemmas.Option.{get_or_from_slice_get}
use Rattle.std.proofs.Math.Nat.{div-one, mul-div_cancel}
use Rattle.histories.specs.Histories.{History}
use Rattle.page_base.specs.Lanes.{Origin, LaneSeen, told_at}
use Rattle.page_base.specs.Pages.{stripe_of}
use Rattle.page_base.specs.declared.layout.Layout.{Layout}
use Rattle.page_base.specs.declared.keys.RegionShape.{RegionShape}
use Rattle.page_model.specs.declared.entry.Entry.{Entry}
use Rattle.page_model.specs.Core.{Home}
use Rattle.page_model.specs.Stands.{HomeLane, PlaceStands}
use Rattle.store_trait.specs.Memory.{page_bytes}
use Rattle.workload_text.specs.Grammar.{Region, size_at}
use Rattle.flat_lines.specs.FlatRegions.{bytes_at}
use Rattle.script_run.specs.Contents.{no_lane, joined, pages_in, page_told, origins_of, contents_of}
use Rattle.script_run.specs.Fits.{FitLanes, page_counts, share_of, shares_of, row_shares}
use Rattle.script_run.specs.FitsJournals.{setup_at}
use Rattle.script_run.specs.FitsSerial.{spread_of, lane_at, region_is_told}
use Rattle.script_run.specs.InsideRunning.{shape_of}
use Rattle.script_run.specs.Tellings.{TellsBytes, TellsWhole, StayTold, ToldIsHeld}
use Rattle.script_run.specs.declared.settings.Settings.{Settings}
use Rattle.script_run.proofs.Contents.{joined-same, length-joined, page_of-joined, get_or-contents_by}
use Rattle.script_run.proofs.Zeros.{joined-page_of}
use Rattle.script_run.proofs.Openings.{sizes_whole}
use Rattle.script_run.proofs.InMemory.{from_range}
use Rattle.script_run.proofs.FittedLanes.{pages_fit, AreWholeRows}
use Rattle.script_run.proofs.Starts.{has_it, base_is}
use Rattle.script_run.proofs.ToldPages.{told_page, pages_whole, region_is}

-- the stripe of a page
one_group : (rows_len stripes region p : ℕ) → rows_len ≡ stripes → stripe_of rows_len 1 region p ≡ (region + p) % stripes
one_group rows_len stripes region p e = ap (λ n. (region + p / 1) % n) e ∙ ap (λ q. (region + q) % stripes) (div-one p)

module _ (layout : Layout) (gs : List Region) (rows : List (List LaneSeen)) (fit : FitLanes layout gs rows) (r : ℕ) (known : r < length gs) where
  abbrev n : ℕ
  n = get_or (page_counts layout.page_size gs) r 0

  size_is : n * layout.page_size ≡ size_at gs r
  size_is = sizes_whole layout.page_size gs fit.whole r known

  pages_are : (bytes : List ℕ) → length bytes ≡ size_at gs r → length bytes / layout.page_size ≡ n
  pages_are bytes long = ap (λ k. k / layout.page_size) (long ∙ sym size_is) ∙ mul-div_cancel n (omega (arith, layout.large_pages))

  contents_are : bytes_at (contents_of rows) r ≡ joined n (page_told rows r)
  contents_are =
      get_or-contents_by (pages_in rows) (page_told rows) r [] (omega (arith, known, ap length (pages_fit layout gs rows fit), length-map gs (λ (g : Region). g.size / layout.page_size)))
      ∙ ap (λ (ps : List ℕ). joined (get_or ps r 0) (page_told rows r)) (pages_fit layout gs rows fit)

  pub held : (bytes : List ℕ) → length bytes ≡ size_at gs r → TellsBytes (spread_of layout) rows r bytes → bytes_at (contents_of rows) r ≡ bytes
  held bytes long tells =
      contents_are
      ∙ joined-same n (page_bytes layout.page_size bytes) (page_told rows r)
      (λ p below.
      ap (λ k. unwrap_or (told_at (lane_at rows ((r + p) % k) r).told p) []) fit.stripes
      ∙ ap (λ (o : Option (List ℕ)). unwrap_or o []) (tells p (omega (arith, below, pages_are bytes long))))
      ∙ joined-page_of layout.page_size n bytes (omega (arith, long, size_is))
      ∙ take_all (n * layout.page_size) bytes (omega (arith, long, size_is))

  pub told : (bytes : List ℕ) → length bytes ≡ size_at gs r → TellsBytes (spread_of layout) rows r bytes → region_is_told rows r ≡ true
  told bytes long tells =
      from_range (λ page. is_some (told_at (lane_at rows (stripe_of (length rows) 1 r page) r).told page)) 0 (get_or (pages_in rows) r 0)
      (λ page low high.
      ap (λ s. is_some (told_at (lane_at rows s r).told page)) (one_group (length rows) layout.stripes r page fit.stripes)
      ∙ ap is_some (tells page (omega (arith, high, ap (λ (ps : List ℕ). get_or ps r 0) (pages_fit layout gs rows fit), pages_are bytes long))))

  -- lanes that tell a region tell what they hold
  pub tells_whole : AreWholeRows rows → region_is_told rows r ≡ true → TellsWhole (spread_of layout) gs rows r
  tells_whole whole its =
      let pages = pages_whole layout gs rows fit r known its whole in
      let are = region_is layout gs rows fit r known its in
      let long : length (bytes_at (contents_of rows) r) ≡ size_at gs r = ap length are ∙ length-joined layout.page_size n (page_told rows r) pages ∙ size_is in
      record {
        size = long;
        pages = λ p below.
            let inside : p < n = omega (arith, below, pages_are (bytes_at (contents_of rows) r) long) in
            let t = told_page layout gs rows fit r known its p inside in
            ap (λ s. told_at (lane_at rows s r).told p) (sym (one_group (length rows) layout.stripes r p fit.stripes))
            ∙ ap (λ (ls : List LaneSeen). told_at (get_or ls r no_lane).told p) (get_or_from_slice_get rows (stripe_of (length rows) 1 r p) t.row [] t.at)
            ∙ ap (λ (l : LaneSeen). told_at l.told p) (get_or_from_slice_get t.row r t.lane no_lane t.here)
            ∙ t.tells
            ∙ ap (λ b. Some b) (sym (page_of-joined layout.page_size n (page_told rows r) p pages inside) ∙ ap (λ (b : List ℕ). page_bytes layout.page_size b p) (sym are));
      }

pub told_is_held : ToldIsHeld
told_is_held layout gs rows r bytes fit known long tells = (held layout gs rows fit r known bytes long tells, told layout gs rows fit r known bytes long tells)

-- ---- behind a run

row_shared : (row : List LaneSeen) → map (λ (l : LaneSeen). share_of l.origin) row ≡ map share_of (map (λ (l : LaneSeen). l.origin) row)
row_shared [] = refl
row_shared (l ∷ ls) = ap (λ (os : List Origin). share_of l.origin ∷ os) (row_shared ls)

-- the shares are those of the origins
shared : (rows : List (List LaneSeen)) → shares_of rows ≡ map (map share_of) (origins_of rows)
shared [] = refl
shared (row ∷ rows) = ap (λ (os : List Origin). os ∷ shares_of rows) (row_shared row) ∙ ap (λ (os : List (List Origin)). map share_of (map (λ (l : LaneSeen). l.origin) row) ∷ os) (shared rows)

module _ (c : Settings) (gs : List Region) (rows ends : List (List LaneSeen)) (fit : FitLanes c.layout gs rows) (whole : AreWholeRows rows) (end_whole : AreWholeRows ends) (same : origins_of ends ≡ origins_of rows) (shapes : List RegionShape) (are : shapes ≡ map (shape_of c.layout.page_size) gs) (made : ℕ → History Entry)
    (home : (s r : ℕ) → s < c.layout.stripes → r < length gs → PlaceStands (setup_at c shapes rows s) (made s) r (Home (lane_at ends s r))) where
  as_many : length ends ≡ length rows
  as_many =
      sym (length-map ends (λ (row : List LaneSeen). map (λ (l : LaneSeen). l.origin) row))
      ∙ ap length same
      ∙ length-map rows (λ (row : List LaneSeen). map (λ (l : LaneSeen). l.origin) row)

  fit_ends : FitLanes c.layout gs ends
  fit_ends = record {
    stripes = as_many ∙ fit.stripes;
    whole = fit.whole;
    lanes = λ s below.
        ap (λ (os : List (List Origin)). get_or os s []) (shared ends ∙ ap (map (map share_of)) same ∙ sym (shared rows))
        ∙ fit.lanes s (omega (arith, below, as_many))
        ∙ ap (λ k. row_shares c.layout.page_size k s (page_counts c.layout.page_size gs)) (sym as_many);
  }

  still : (r : ℕ) → r < length gs → region_is_told rows r ≡ true → region_is_told ends r ≡ true
  still r known its =
      from_range (λ page. is_some (told_at (lane_at ends (stripe_of (length ends) 1 r page) r).told page)) 0 (get_or (pages_in ends) r 0)
      (λ page low high. one page (omega (arith, high, ap (λ (ps : List ℕ). get_or ps r 0) (pages_fit c.layout gs ends fit_ends))))
    where
      one : (page : ℕ) → page < get_or (page_counts c.layout.page_size gs) r 0 → is_some (told_at (lane_at ends (stripe_of (length ends) 1 r page) r).told page) ≡ true
      one page below =
          let s : ℕ = stripe_of c.layout.stripes 1 r page in
          let lane : HomeLane (setup_at c shapes rows s) (made s) r (lane_at ends s r) = (home s r (mod_below (r + page / 1) c.layout.stripes (omega (arith, c.layout.some_stripe))) known).1 in
          ap (λ m. is_some (told_at (lane_at ends (stripe_of m 1 r page) r).told page)) (as_many ∙ fit.stripes)
          ∙ lane.told page (has_it c gs rows fit shapes r known page below are) (ap is_some (base_is c gs rows fit shapes r known page below its))

  pub stay_told : StayTold (spread_of c.layout) gs rows ends
  stay_told r known its = tells_whole c.layout gs ends fit_ends r known end_whole (still r known its)
