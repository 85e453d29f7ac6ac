-- What lanes tell of the pages of a region that they tell.
use Rattle.std.proofs.Common.{◌≡◌, ℕ, zero, suc, ◌+◌, ◌/◌, ◌%◌, ◌<◌, Bool, true, List, [], length, get_or, Option, Some, None, is_some, slice_get, refl, sym, ap, subst, ◌∙◌, arith}
use Rattle.std.specs.Option.{IfSome, unwrap_or}
use Rattle.std.specs.List.{list_all, range_with_len}
use Rattle.std.proofs.lemmas.Bool.{and_parts}
use Rattle.std.proofs.lemmas.List.{length-map}
use Rattle.std.proofs.lemmas.Nat.{mod_below}
use Rattle.std.proofs.Math.Nat.{div-one}
use Rattle.std.proofs.lemmas.Option.{get_or_from_slice_get}
use Rattle.page_base.specs.Lanes.{Origin, LaneSeen, told_at}
use Rattle.page_base.specs.Pages.{stripe_of}
use Rattle.page_base.specs.declared.layout.Layout.{Layout}
use Rattle.workload_text.specs.Grammar.{Region}
use Rattle.flat_lines.specs.FlatRegions.{bytes_at}
use Rattle.script_run.specs.Contents.{joined, pages_in, page_told, contents_of}
use Rattle.script_run.specs.Fits.{FitLanes, page_counts}
use Rattle.script_run.specs.FitsSerial.{lane_at, region_is_told}
use Rattle.script_run.proofs.Contents.{AreWhole, get_or-contents_by}
use Rattle.script_run.proofs.FittedLanes.{there, lane_there, row_len, lane_is, pages_fit, some_row, AreWholeRows}

pub all_range : (P : ℕ → Bool) (a n : ℕ) → list_all P (range_with_len a n) ≡ true → (i : ℕ) → i < n → P (a + i) ≡ true
all_range P a zero all i below = absurd (omega (arith, below))
all_range P a (suc n) all zero below = ap P (omega arith) ∙ (and_parts (P a) (list_all P (range_with_len (a + 1) n)) all).0
all_range P a (suc n) all (suc i) below = ap P (omega arith) ∙ all_range P (a + 1) n (and_parts (P a) (list_all P (range_with_len (a + 1) n)) all).1 i (omega (arith, below))

pub is_there : {A : Type 0} (o : Option A) → is_some o ≡ true → (x : A) × (o ≡ Some x)
is_there None e = absurd (cc)
is_there (Some x) e = (x, refl)

module _ (layout : Layout) (gs : List Region) (rows : List (List LaneSeen)) (fit : FitLanes layout gs rows) where
  -- ---- told pages

  module _ (r : ℕ) (known : r < length gs) (told : region_is_told rows r ≡ true) where
    n : ℕ
    n = get_or (page_counts layout.page_size gs) r 0

    stripe : ℕ → ℕ
    stripe page = stripe_of (length rows) 1 r page

    stripe_below : (page : ℕ) → stripe_of (length rows) 1 r page < length rows
    stripe_below page = mod_below (r + page / 1) (length rows) (some_row layout gs rows fit)

    pub record ToldAt (page : ℕ) : Type 0 where
      pub row : List LaneSeen
      pub lane : LaneSeen
      pub at : slice_get rows (stripe_of (length rows) 1 r page) ≡ Some row
      pub here : slice_get row r ≡ Some lane
      pub tells : told_at lane.told page ≡ Some (page_told rows r page)

    pub told_page : (page : ℕ) → page < get_or (page_counts layout.page_size gs) r 0 → ToldAt page
    told_page page below =
        let s : ℕ = stripe_of (length rows) 1 r page in
        let row = there rows s (stripe_below page) in
        let inside : r < length row.0 = omega (arith, known, row_len layout gs rows fit s (stripe_below page), ap length (get_or_from_slice_get rows s row.0 [] row.1)) in
        let lane = there row.0 r inside in
        let is : lane_at rows s r ≡ lane.0 = lane_there rows s r row.0 lane.0 row.1 lane.1 in
        let some : is_some (told_at (lane_at rows s r).told page) ≡ true =
        ap (λ q. is_some (told_at (lane_at rows (stripe_of (length rows) 1 r q) r).told q)) (omega arith)
        ∙ all_range (λ q. is_some (told_at (lane_at rows (stripe_of (length rows) 1 r q) r).told q)) 0 (get_or (pages_in rows) r 0) told page (omega (arith, below, ap (λ (ps : List ℕ). get_or ps r 0) (pages_fit layout gs rows fit))) in
        let bytes = is_there (told_at lane.0.told page) (ap (λ (l : LaneSeen). is_some (told_at l.told page)) (sym is) ∙ some) in
        let same : page_told rows r page ≡ bytes.0 =
        ap (λ q. unwrap_or (told_at (lane_at rows ((r + q) % length rows) r).told page) []) (sym (div-one page))
        ∙ ap (λ (l : LaneSeen). unwrap_or (told_at l.told page) []) is
        ∙ ap (λ (o : Option (List ℕ)). unwrap_or o []) bytes.1 in
        record {
          row = row.0;
          lane = lane.0;
          at = row.1;
          here = lane.1;
          tells = bytes.1 ∙ ap (λ b. Some b) (sym same);
        }

    -- whole pages, where the lanes tell nothing else
    pub pages_whole : AreWholeRows rows → AreWhole layout.page_size (get_or (page_counts layout.page_size gs) r 0) (page_told rows r)
    pages_whole whole = record {
      each = λ page below.
          let t = told_page page below in
          let s : ℕ = stripe_of (length rows) 1 r page in
          let long : length (page_told rows r page) ≡ t.lane.origin.page_size = subst (λ (o : Option (List ℕ)). IfSome o (λ b. length b ≡ t.lane.origin.page_size)) t.tells (whole s r page t.row t.lane t.at t.here) in
          long ∙ ap (λ (l : LaneSeen). l.origin.page_size) (sym (lane_there rows s r t.row t.lane t.at t.here)) ∙ ap (λ (o : Origin). o.page_size) (lane_is layout gs rows fit s r (stripe_below page) known);
    }

    pub region_is : bytes_at (contents_of rows) r ≡ joined (get_or (page_counts layout.page_size gs) r 0) (page_told rows r)
    region_is =
        get_or-contents_by (pages_in rows) (page_told rows) r [] (omega (arith, known, ap length (pages_fit layout gs rows fit), length-map gs (λ (g : Region). g.size / layout.page_size)))
        ∙ ap (λ (ps : List ℕ). joined (get_or ps r 0) (page_told rows r)) (pages_fit layout gs rows fit)
