-- Lanes that fit a workload, and a pager over them.
use Rattle.std.proofs.Common.{◌≡◌, ℕ, zero, suc, ◌/◌, ◌<◌, ◌≤◌, List, [], ◌∷◌, length, map, sum, get_or, Option, Some, None, slice_get, refl, sym, ap, subst, ◌∙◌, arith}
use Rattle.std.specs.Option.{IfSome}
use Rattle.std.specs.List.{enumerate_from}
use Rattle.std.proofs.lemmas.List.{get_or-map, length-map}
use Rattle.std.proofs.lemmas.List.FromFn.{length-enumerate_from, get_or-enumerate_from}
use Rattle.std.proofs.lemmas.Option.{slice_get_within, get_or_from_slice_get, slice_get-get_or}
use Rattle.page_base.specs.ListSeen.{ListSeen}
use Rattle.page_base.specs.Lanes.{Origin, LaneSeen, told_at}
use Rattle.page_base.specs.declared.keys.RegionShape.{RegionShape}
use Rattle.page_base.specs.declared.layout.Layout.{Layout}
use Rattle.page_model.specs.Setups as setups
use Rattle.stripe_core.specs.Configs.{CanMake}
use Rattle.store_trait.specs.Memory.{memory_origin}
use Rattle.serial_pager.specs.declared.pager.PagerConfig.{PagerConfig}
use Rattle.serial_pager.specs.Pagers.{config_of, CanOpen, rows_by}
use Rattle.workload_text.specs.Grammar.{Region}
use Rattle.script_run.specs.Contents.{no_lane, pages_in}
use Rattle.script_run.specs.Fits.{FitLanes, AreInRange, share_of, row_shares, page_counts}
use Rattle.script_run.specs.FitsSerial.{lane_at}
use Rattle.script_run.specs.InsideRunning.{shape_of}
use Rattle.script_run.specs.declared.settings.Settings.{Settings}
use Rattle.script_run.proofs.Openings.{origins_pages, item_at}
use Rattle.script_run.proofs.Shapes.{few_pages, pages_of_shapes}

pub there : {X : Type 0} (xs : List X) (i : ℕ) → i < length xs → (x : X) × (slice_get xs i ≡ Some x)
there xs i below = let x = item_at xs i below in (x.0, slice_get-get_or xs i x.0 below ∙ ap (λ y. Some y) x.1)

pub lane_there : (rows : List (List LaneSeen)) (s r : ℕ) (row : List LaneSeen) (lane : LaneSeen) → slice_get rows s ≡ Some row → slice_get row r ≡ Some lane → lane_at rows s r ≡ lane
lane_there rows s r row lane e f = ap (λ (ls : List LaneSeen). get_or ls r no_lane) (get_or_from_slice_get rows s row [] e) ∙ get_or_from_slice_get row r lane no_lane f

-- ---- shapes

some_shape : {a b : RegionShape} → Some a ≡ Some b → a ≡ b
some_shape {a} {b} e = ap (from a) e
  where
    from : RegionShape → Option RegionShape → RegionShape
    from d (Some c) = c
    from d None = d

pub record IsShapeOf (z : ℕ) (gs : List Region) (r : ℕ) (shape : RegionShape) : Type 0 where
  pub known : r < length gs
  pub group : shape.group ≡ 1
  pub pages : get_or (page_counts z gs) r 0 ≡ shape.pages

pub shape_at : (z : ℕ) (gs : List Region) (r : ℕ) (shape : RegionShape) → slice_get (map (shape_of z) gs) r ≡ Some shape → IsShapeOf z gs r shape
shape_at z [] r shape e = absurd (cc)
shape_at z (g ∷ gs) zero shape e = record { known = omega arith; group = ap (λ (s : RegionShape). s.group) (sym (some_shape e)); pages = ap (λ (s : RegionShape). s.pages) (some_shape e) }
shape_at z (g ∷ gs) (suc r) shape e = let h = shape_at z gs r shape e in record { known = omega (arith, h.known); group = h.group; pages = h.pages }

pub pages_of_shape : (z : ℕ) (gs : List Region) (r : ℕ) → setups.pages_of (slice_get (map (shape_of z) gs) r) ≡ get_or (page_counts z gs) r 0
pages_of_shape z [] r = refl
pages_of_shape z (g ∷ gs) zero = refl
pages_of_shape z (g ∷ gs) (suc r) = pages_of_shape z gs r

-- ---- lanes

same_pages : (row : List LaneSeen) → map (λ (o : Origin). o.pages) (map (λ (l : LaneSeen). l.origin) row) ≡ map (λ (o : Origin). o.pages) (map (λ (l : LaneSeen). share_of l.origin) row)
same_pages [] = refl
same_pages (l ∷ row) = ap (λ (ps : List ℕ). l.origin.pages ∷ ps) (same_pages row)

module _ (layout : Layout) (gs : List Region) (rows : List (List LaneSeen)) (fit : FitLanes layout gs rows) where
  abbrev pages : List ℕ
  pages = page_counts layout.page_size gs

  pages_count : length pages ≡ length gs
  pages_count = length-map gs (λ (g : Region). g.size / layout.page_size)

  pub some_row : 0 < length rows
  some_row = omega (arith, fit.stripes, layout.some_stripe)

  shares_at : (s : ℕ) → s < length rows → map (λ (l : LaneSeen). share_of l.origin) (get_or rows s []) ≡ row_shares layout.page_size (length rows) s pages
  shares_at s below = sym (get_or-map (λ (row : List LaneSeen). map (λ (l : LaneSeen). share_of l.origin) row) rows s [] [] below) ∙ fit.lanes s below

  pub row_len : (s : ℕ) → s < length rows → length (get_or rows s []) ≡ length gs
  row_len s below =
      sym (length-map (get_or rows s []) (λ (l : LaneSeen). share_of l.origin))
      ∙ ap length (shares_at s below)
      ∙ length-map (enumerate_from 0 pages) (λ (e : ℕ × ℕ). memory_origin e.0 e.1 layout.page_size (length rows) s)
      ∙ length-enumerate_from 0 pages
      ∙ pages_count

  pub lane_is : (s r : ℕ) → s < length rows → r < length gs → share_of (lane_at rows s r).origin ≡ memory_origin r (get_or pages r 0) layout.page_size (length rows) s
  lane_is s r below known =
      let region : r < length pages = omega (arith, known, pages_count) in
      sym (get_or-map (λ (l : LaneSeen). share_of l.origin) (get_or rows s []) r no_lane (no_lane).origin (omega (arith, row_len s below, known)))
      ∙ ap (λ (os : List Origin). get_or os r (no_lane).origin) (shares_at s below)
      ∙ get_or-map (λ (e : ℕ × ℕ). memory_origin e.0 e.1 layout.page_size (length rows) s) (enumerate_from 0 pages) r (0, 0) (no_lane).origin (omega (arith, length-enumerate_from 0 pages, region))
      ∙ ap (λ (e : ℕ × ℕ). memory_origin e.0 e.1 layout.page_size (length rows) s) (get_or-enumerate_from 0 pages r (0, 0) region ∙ ap (λ (k : ℕ). let pair : ℕ × ℕ = (k, get_or pages r 0) in pair) (omega arith))

  pub pages_fit : pages_in rows ≡ pages
  pages_fit =
      ap (λ (os : List Origin). map (λ (o : Origin). o.pages) os) (get_or-map (λ (row : List LaneSeen). map (λ (l : LaneSeen). l.origin) row) rows 0 [] [] some_row)
      ∙ same_pages (get_or rows 0 [])
      ∙ ap (λ (os : List Origin). map (λ (o : Origin). o.pages) os) (shares_at 0 some_row)
      ∙ origins_pages 0 layout.page_size (length rows) 0 pages

  -- ---- a pager may be opened over them

  module _ (s : Settings) (range : AreInRange s) (same : s.layout ≡ layout) (few : length gs ≤ 64) (small : sum pages ≤ 1048576) (c : PagerConfig) (is : c ≡ record { layout = s.layout; faults = s.faults; high = s.high; low = s.low; shapes = c.shapes }) (shapes : c.shapes.items ≡ map (shape_of layout.page_size) gs) where
    layout_is : c.layout ≡ layout
    layout_is = ap (λ (x : PagerConfig). x.layout) is ∙ same

    shapes_len : length c.shapes.items ≡ length gs
    shapes_len = ap length shapes ∙ length-map gs (shape_of layout.page_size)

    can_make : (n : ℕ) (row : List LaneSeen) → slice_get rows n ≡ Some row → CanMake (config_of c n) row
    can_make n row e =
        let below : n < length rows = slice_get_within rows n row e in
        let row_is : get_or rows n [] ≡ row = get_or_from_slice_get rows n row [] e in
        let len : length row ≡ length gs = ap length (sym row_is) ∙ row_len n below in
        record {
          number = omega (arith, below, fit.stripes, ap (λ (l : Layout). l.stripes) layout_is);
          some_fault = omega (arith, range.some_fault, ap (λ (x : PagerConfig). x.faults) is);
          few_faults = omega (arith, range.few_faults, ap (λ (x : PagerConfig). x.faults) is);
          marks = omega (arith, range.marks, ap (λ (x : PagerConfig). x.low) is, ap (λ (x : PagerConfig). x.high) is);
          percent = omega (arith, range.percent, ap (λ (x : PagerConfig). x.high) is);
          few_regions = omega (arith, shapes_len, few);
          few_pages = few_pages c.shapes.items pages (ap (map (λ (x : RegionShape). x.pages)) shapes ∙ pages_of_shapes layout.page_size gs) small;
          groups = λ r shape f. let h = shape_at layout.page_size gs r shape (ap (λ (ss : List RegionShape). slice_get ss r) (sym shapes) ∙ f) in omega (arith, h.group);
          lane_count = len ∙ sym shapes_len;
          lanes = λ r shape lane f g.
              let h = shape_at layout.page_size gs r shape (ap (λ (ss : List RegionShape). slice_get ss r) (sym shapes) ∙ f) in
              let o : share_of lane.origin ≡ memory_origin r (get_or pages r 0) layout.page_size (length rows) n = ap (λ (l : LaneSeen). share_of l.origin) (sym (lane_there rows n r row lane e g)) ∙ lane_is n r below h.known in
              record {
                region = ap (λ (x : Origin). x.region) o;
                pages = ap (λ (x : Origin). x.pages) o ∙ h.pages;
                page_size = ap (λ (x : Origin). x.page_size) o ∙ sym (ap (λ (l : Layout). l.page_size) layout_is);
                group = ap (λ (x : Origin). x.group) o ∙ sym h.group;
                stripes = ap (λ (x : Origin). x.stripes) o ∙ fit.stripes ∙ sym (ap (λ (l : Layout). l.stripes) layout_is);
                stripe = ap (λ (x : Origin). x.stripe) o;
              };
        }

    pub can_open : (noted : ℕ) → noted ≡ layout.stripes → CanOpen c rows noted
    can_open noted e = record {
      stripes = fit.stripes ∙ sym (ap (λ (l : Layout). l.stripes) layout_is);
      journals = e ∙ sym (ap (λ (l : Layout). l.stripes) layout_is);
      each = can_make;
    }

-- ---- told pages are whole

abbrev pub AreWholeRows : List (List LaneSeen) → Type 0
AreWholeRows rows = (s r page : ℕ) (row : List LaneSeen) (lane : LaneSeen) → slice_get rows s ≡ Some row → slice_get row r ≡ Some lane → IfSome (told_at lane.told page) (λ (bytes : List ℕ). length bytes ≡ lane.origin.page_size)

map_there : {A B : Type 0} (f : A → B) (P : B → Type 0) (xs : List A) (i : ℕ) (y : B) → slice_get (map f xs) i ≡ Some y → ((x : A) → P (f x)) → P y
map_there {A} {B} f P [] i y e all = absurd (cc)
map_there {A} {B} f P (x ∷ xs) zero y e all = subst P (some_b e) (all x)
  where
    some_b : {a b : B} → Some a ≡ Some b → a ≡ b
    some_b {a} {b} e = ap (from a) e
      where
        from : B → Option B → B
        from d (Some c) = c
        from d None = d
map_there {A} {B} f P (x ∷ xs) (suc i) y e all = map_there f P xs i y e all

pub whole_rows : {S : Type 0} (seen : S → LaneSeen) → ((s : S) (page : ℕ) → IfSome (told_at (seen s).told page) (λ (bytes : List ℕ). length bytes ≡ (seen s).origin.page_size)) → (stripes : List (ListSeen S)) → AreWholeRows (rows_by seen stripes)
whole_rows {S} seen law stripes s r page row lane e f =
    map_there (λ (st : ListSeen S). map seen st.items) (λ (x : List LaneSeen). slice_get x r ≡ Some lane → IfSome (told_at lane.told page) (λ (bytes : List ℕ). length bytes ≡ lane.origin.page_size)) stripes s row e
    (λ st g. map_there seen (λ (l : LaneSeen). IfSome (told_at l.told page) (λ (bytes : List ℕ). length bytes ≡ l.origin.page_size)) st.items r lane g (λ x. law x page)) f
