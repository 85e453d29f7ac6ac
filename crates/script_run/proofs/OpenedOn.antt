-- A pager that was just opened over the lanes of a workload.
use Rattle.std.proofs.Common.{◌≡◌, ℕ, ◌*◌, ◌<◌, ◌≤◌, true, List, [], length, map, get_or, Option, Some, None, slice_get, refl, sym, ap, subst, ◌∙◌, arith}
use Rattle.std.specs.Option.{option_map}
use Rattle.std.proofs.lemmas.List.{length-map}
use Rattle.std.proofs.lemmas.Option.{slice_get_within, slice_get-map, get_or_from_slice_get}
use Rattle.page_base.specs.Lanes.{LaneSeen}
use Rattle.page_base.specs.declared.keys.RegionShape.{RegionShape}
use Rattle.page_base.specs.declared.layout.Layout.{Layout}
use Rattle.page_model.specs.Core.{Core}
use Rattle.page_model.specs.Setups.{Setup}
use Rattle.page_model.specs.Setups as setups
use Rattle.page_model.specs.Stands.{StandsFor}
use Rattle.stripe_core.specs.Configs.{setup_of}
use Rattle.serial_pager.specs.declared.pager.PagerConfig.{PagerConfig}
use Rattle.serial_pager.specs.Seen.{StripeSeen}
use Rattle.serial_pager.specs.Pagers as pagers
use Rattle.serial_pager.specs.Pagers.{PagerSeen, config_of, CanOpen, IsMade, IsOpened, core_in, core_at}
use Rattle.workload_text.specs.Grammar.{Region, size_at}
use Rattle.script_run.specs.Fits.{FitLanes, page_counts, has_whole_pages}
use Rattle.script_run.specs.FitsSerial.{spread_of}
use Rattle.script_run.specs.FitsJournals.{setup_at}
use Rattle.script_run.specs.InsideRanges.{pages_at}
use Rattle.script_run.specs.InsideRunning.{IsShaped, OpensOn, shape_of}
use Rattle.script_run.specs.declared.settings.Settings.{Settings}
use Rattle.script_run.proofs.Openings.{sizes_whole}
use Rattle.script_run.proofs.FittedLanes.{there, pages_of_shape}
use Rattle.script_run.proofs.Lists.{same_items}

pub core_there : {J : Type 0} (o : Option (StripeSeen J)) (c : Core) → core_in o ≡ Some c → (x : StripeSeen J) × ((o ≡ Some x) × (x.core ≡ c))
core_there None c e = absurd (cc)
core_there (Some x) c e = (x, (refl, let same : x.core ≡ c = cc in same))

setup_there : {J : Type 0} (o : Option (StripeSeen J)) (u : Setup) → option_map (λ (y : Core). y.setup) (core_in o) ≡ Some u → (x : StripeSeen J) × ((o ≡ Some x) × (x.core.setup ≡ u))
setup_there None u e = absurd (cc)
setup_there (Some x) u e = (x, (refl, let same : x.core.setup ≡ u = cc in same))

module _ (layout : Layout) (gs : List Region) (rows : List (List LaneSeen)) (fit : FitLanes layout gs rows) where
  module _ {J : Type 0} (set : Settings) (set_layout : set.layout ≡ layout) (c : PagerConfig) (is : c ≡ record { layout = set.layout; faults = set.faults; high = set.high; low = set.low; shapes = c.shapes }) (journals : List J) (can : CanOpen c rows (length journals)) (p : PagerSeen J) (opened : IsOpened c rows journals p) (shapes : c.shapes.items ≡ map (shape_of layout.page_size) gs) (pages : has_whole_pages layout.page_size gs ≡ true) (small : (r : ℕ) → size_at gs r ≤ 1099511627776) where
    same : c.layout ≡ layout
    same = ap (λ (x : PagerConfig). x.layout) is ∙ set_layout

    shapes_are : p.shapes ≡ map (shape_of layout.page_size) gs
    shapes_are = opened.shapes ∙ shapes

    pages_are : (r : ℕ) → pages_at p r ≡ get_or (page_counts layout.page_size gs) r 0
    pages_are r = ap (λ (ss : List RegionShape). setups.pages_of (slice_get ss r)) shapes_are ∙ pages_of_shape layout.page_size gs r

    size_is : p.page_size ≡ layout.page_size
    size_is = opened.page_size ∙ ap (λ (l : Layout). l.page_size) same

    rows_len : length rows ≡ length p.stripes
    rows_len = can.stripes ∙ sym opened.stripes

    -- what is there of one stripe
    record OpenAt (s : ℕ) : Type 0 where
      row : List LaneSeen
      journal : J
      stripe : StripeSeen J
      row_is : slice_get rows s ≡ Some row
      journal_is : slice_get journals s ≡ Some journal
      stripe_is_ : slice_get p.stripes s ≡ Some stripe
      as_made : IsMade c s row journal stripe

    open_at : (s : ℕ) → s < length rows → OpenAt s
    open_at s below =
        let row = there rows s below in
        let journal = there journals s (omega (arith, below, can.journals, can.stripes)) in
        let x = there p.stripes s (omega (arith, below, rows_len)) in
        record { row = row.0; journal = journal.0; stripe = x.0; row_is = row.1; journal_is = journal.1; stripe_is_ = x.1; as_made = opened.each s row.0 journal.0 x.0 row.1 journal.1 x.1 }

    stands : (s : ℕ) (core : Core) → core_at p s ≡ Some core → StandsFor [] core
    stands s core e =
        let x = core_there (slice_get p.stripes s) core e in
        let o = open_at s (omega (arith, rows_len, slice_get_within p.stripes s x.0 x.1.0)) in
        let its : o.stripe ≡ x.0 = let two : Some o.stripe ≡ Some x.0 = sym o.stripe_is_ ∙ x.1.0 in cc in
        subst (StandsFor []) (ap (λ (y : StripeSeen J). y.core) its ∙ x.1.1) o.as_made.stands

    journals_are : map (λ (x : StripeSeen J). x.journal) p.stripes ≡ journals
    journals_are = same_items (map (λ (x : StripeSeen J). x.journal) p.stripes) journals
        (length-map p.stripes (λ (x : StripeSeen J). x.journal) ∙ opened.stripes ∙ sym can.journals)
        (λ s journal e.
        let below : s < length rows = omega (arith, slice_get_within (map (λ (x : StripeSeen J). x.journal) p.stripes) s journal e, length-map p.stripes (λ (x : StripeSeen J). x.journal), rows_len) in
        let o = open_at s below in
        let its : o.stripe.journal ≡ journal = let two : Some o.stripe.journal ≡ Some journal = sym (slice_get-map (λ (x : StripeSeen J). x.journal) p.stripes s ∙ ap (option_map (λ (x : StripeSeen J). x.journal)) o.stripe_is_) ∙ e in cc in
        o.journal_is ∙ ap (λ (x : J). Some x) (sym o.as_made.journal ∙ its))

    made : (s : ℕ) → s < layout.stripes → pagers.setup_at p s ≡ Some (setup_at set p.shapes rows s)
    made s below =
        let o = open_at s (omega (arith, below, fit.stripes)) in
        let setup : Setup = setup_of (config_of c s) o.row in
        let its : setup ≡ setup_at set p.shapes rows s =
        ap (λ (x : PagerConfig). setup_of (config_of x s) o.row) is
        ∙ ap (λ (ss : List RegionShape). record (setup_at set p.shapes rows s) { shapes = ss; lanes = o.row }) (sym opened.shapes)
        ∙ ap (λ (ls : List LaneSeen). record (setup_at set p.shapes rows s) { lanes = ls }) (sym (get_or_from_slice_get rows s o.row [] o.row_is)) in
        ap (λ (x : Option (StripeSeen J)). option_map (λ (y : Core). y.setup) (core_in x)) o.stripe_is_ ∙ ap (λ (y : Core). Some y.setup) o.as_made.core ∙ ap (λ (x : Setup). Some x) its

    -- each stripe has the regions
    known : (s : ℕ) (u : Setup) → pagers.setup_at p s ≡ Some u → setups.regions u ≡ length gs
    known s u e =
        let x = setup_there (slice_get p.stripes s) u e in
        let o = open_at s (omega (arith, rows_len, slice_get_within p.stripes s x.0 x.1.0)) in
        let its : o.stripe ≡ x.0 = let two : Some o.stripe ≡ Some x.0 = sym o.stripe_is_ ∙ x.1.0 in cc in
        ap setups.regions (sym x.1.1 ∙ ap (λ (y : StripeSeen J). y.core.setup) (sym its) ∙ ap (λ (y : Core). y.setup) o.as_made.core)
        ∙ ap length shapes ∙ length-map gs (shape_of layout.page_size)

    shaped : IsShaped (spread_of layout) gs p
    shaped = record {
      some = omega (arith, layout.large_pages);
      some_stripe = omega (arith, layout.some_stripe);
      page_size = size_is;
      stripes = opened.stripes ∙ ap (λ (l : Layout). l.stripes) same;
      groups = λ q. refl;
      shapes = shapes_are;
      whole = λ r known. sym (sizes_whole layout.page_size gs pages r known) ∙ sym (ap (λ m. m * p.page_size) (pages_are r) ∙ ap (λ z. get_or (page_counts layout.page_size gs) r 0 * z) size_is);
      small = small;
      known = known;
    }

    pub opens_on : OpensOn set gs rows journals p
    opens_on = record {
      shaped = subst (λ (l : Layout). IsShaped (spread_of l) gs p) (sym set_layout) shaped;
      spent = opened.spent;
      stands = stands;
      made = λ s below. made s (subst (λ (l : Layout). s < l.stripes) set_layout below);
      journals_are = journals_are;
    }
