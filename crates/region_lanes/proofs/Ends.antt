-- From the clauses of opening and closing to what the files of all regions hold in the end.
use Rattle.std.proofs.Common.{◌≡◌, ◌≢◌, ◌⊎◌, inl, inr, ℕ, zero, suc, ◌+◌, ◌*◌, ◌-◌, ◌/◌, ◌%◌, ◌<◌, ◌≤◌, Bool, true, false, List, [], ◌∷◌, ◌++◌, length, take, drop, slice_get, slice_index_or, Option, Some, None, refl, sym, ap, subst, ◌∙◌, arith, rules}
use Rattle.std.specs.List.{AllByRecursion, flat_map}
use Rattle.std.specs.Str.{bytes_eq}
use Rattle.std.proofs.lemmas.Bool.{cond-true, cases_Bool, and_parts, eqb-true, lt-ltb}
use Rattle.std.specs.Cmp.Derive.{both_true}
use Rattle.std.specs.Prelude.{◌==◌}
use Rattle.std.proofs.lemmas.Nat.{mod_below}
use Rattle.std.proofs.lemmas.Slice.Eq.{bytes_eq-Decides}
use Rattle.std.proofs.Math.Nat.{div-one}
use Rattle.page_base.specs.Backings.{Backing, in_memory, in_file, in_files}
use Rattle.page_base.specs.Lanes.{Origin, LaneSeen, has_page, told_at}
use Rattle.store_trait.specs.Memory.{page_bytes, told_by}
use Rattle.store_trait.specs.WholePages.{told_at-told_by}
use Rattle.file_store.specs.Shelves.{Shelf, file_at}
use Rattle.script_run.specs.Contents.{no_lane}
use Rattle.script_run.specs.FitsSerial.{lane_at}
use Rattle.region_table.specs.Regions.{NamedRegion}
use Rattle.region_lanes.specs.Closings.{is_at, rows_flat, ClosesAll}
use Rattle.region_lanes.specs.Laws.{AreApart}
use Rattle.region_lanes.specs.Regions.{region_origin, AreLanes, AreOpened, IsOpenedIn, TellsShare, TellContents, bytes_in, first_bytes}
use Rattle.region_lanes.proofs.Files.{AllSized, AllTell, AnyOwns, file_end}

all_front : (P : LaneSeen → Type 0) (xs ys : List LaneSeen) → AllByRecursion P xs → AllByRecursion P ys → AllByRecursion P (xs ++ ys)
all_front P [] ys a b = b
all_front P (x ∷ xs) ys a b = (a.0, all_front P xs ys a.1 b)

pub all_row : (P : LaneSeen → Type 0) (row : List LaneSeen) → ((r : ℕ) → r < length row → P (slice_index_or row r no_lane)) → AllByRecursion P row
all_row P [] each = tt
all_row P (x ∷ xs) each = (each 0 (omega arith), all_row P xs (λ r h. each (suc r) (omega arith)))

pub all_rows : (P : LaneSeen → Type 0) (rows : List (List LaneSeen)) → ((s r : ℕ) → s < length rows → r < length (slice_index_or rows s []) → P (lane_at rows s r)) → AllByRecursion P (rows_flat rows)
all_rows P [] each = tt
all_rows P (row ∷ rows) each = all_front P row (rows_flat rows) (all_row P row (λ r h. each 0 r (omega arith) h)) (all_rows P rows (λ s r h k. each (suc s) r (omega arith) k))

own_front : (path : List ℕ) (p : ℕ) (xs ys : List LaneSeen) → AnyOwns path p xs → AnyOwns path p (xs ++ ys)
own_front path p [] ys own = absurd own
own_front path p (x ∷ xs) ys (inl own) = inl own
own_front path p (x ∷ xs) ys (inr own) = inr (own_front path p xs ys own)

own_back : (path : List ℕ) (p : ℕ) (xs ys : List LaneSeen) → AnyOwns path p ys → AnyOwns path p (xs ++ ys)
own_back path p [] ys own = own
own_back path p (x ∷ xs) ys own = inr (own_back path p xs ys own)

own_row : (path : List ℕ) (p : ℕ) (row : List LaneSeen) (r : ℕ) → r < length row → (is_at path (slice_index_or row r no_lane).origin.backing ≡ true) × (has_page (slice_index_or row r no_lane).origin p ≡ true) → AnyOwns path p row
own_row path p [] r h own = absurd (omega arith)
own_row path p (x ∷ xs) zero h own = inl own
own_row path p (x ∷ xs) (suc r) h own = inr (own_row path p xs r (omega arith) own)

own_rows : (path : List ℕ) (p : ℕ) (rows : List (List LaneSeen)) (s r : ℕ) → s < length rows → r < length (slice_index_or rows s []) → (is_at path (lane_at rows s r).origin.backing ≡ true) × (has_page (lane_at rows s r).origin p ≡ true) → AnyOwns path p (rows_flat rows)
own_rows path p [] s r h k own = absurd (omega arith)
own_rows path p (row ∷ rows) zero r h k own = own_front path p row (rows_flat rows) (own_row path p row r k own)
own_rows path p (row ∷ rows) (suc s) r h k own = own_back path p row (rows_flat rows) (own_rows path p rows s r (omega arith) k own)

pub got_at : {X : Type 0} (xs : List X) (k : ℕ) → k < length xs → (x : X) × (slice_get xs k ≡ Some x)
got_at [] k h = absurd (omega arith)
got_at (x ∷ xs) zero h = (x, refl)
got_at (x ∷ xs) (suc k) h = got_at xs k (omega arith)

pub inside_of : {X : Type 0} (xs : List X) (k : ℕ) (x : X) → slice_get xs k ≡ Some x → k < length xs
inside_of [] k x e = absurd (cc)
inside_of (y ∷ xs) zero x e = omega arith
inside_of (y ∷ xs) (suc k) x e = omega (arith, inside_of xs k x e)

at_path : (path : List ℕ) (b : Backing) → is_at path b ≡ true → b ≡ in_file path
at_path path in_memory hit = absurd (cc)
at_path path (in_file own) hit = ap in_file ((bytes_eq-Decides own path).0 hit)
at_path path (in_files own file) hit = absurd (cc)

module _ (n stripes : ℕ) (regions : List NamedRegion) (rows : List (List LaneSeen)) (lanes : AreLanes n stripes regions rows) (apart : AreApart regions) (some_page : 0 < n) (some_stripe : 0 < stripes) (r : ℕ) (g : NamedRegion) (path : List ℕ) (known : slice_get regions r ≡ Some g) (lies : g.backing ≡ in_file path) where
  -- a lane that lies in the region's file is one of the region's
  its_lane : (s q : ℕ) → s < length rows → q < length (slice_index_or rows s []) → is_at path (lane_at rows s q).origin.backing ≡ true → (q ≡ r) × ((lane_at rows s q).origin ≡ region_origin n stripes s r g)
  its_lane s q in_rows in_row hit =
      let below : s < stripes = omega (arith, in_rows, lanes.count) in
      let got = got_at regions q (omega (arith, in_row, lanes.width s below)) in
      let is : (lane_at rows s q).origin ≡ region_origin n stripes s q got.0 = lanes.origin s q got.0 below got.1 in
      let same : q ≡ r = apart q r got.0 g path got.1 known (ap (λ (o : Origin). o.backing) (sym is) ∙ at_path path (lane_at rows s q).origin.backing hit) lies in
      (same, subst (λ (k : ℕ). (lane_at rows s k).origin ≡ region_origin n stripes s r g) (sym same) (lanes.origin s r g below known))

  sized : AllSized path n (g.size / n) (rows_flat rows)
  sized = all_rows _ rows (λ s q in_rows in_row hit. let its = its_lane s q in_rows in_row hit in (ap (λ (o : Origin). o.page_size) its.1, ap (λ (o : Origin). o.pages) its.1))

  tell : (contents : List ℕ) → TellContents n stripes rows r g.size contents → (p : ℕ) → p < g.size / n → AllTell path p (page_bytes n contents p) (rows_flat rows)
  tell contents tells p h = all_rows _ rows (λ s q in_rows in_row hit has.
      let its = its_lane s q in_rows in_row hit in
      let own : (r + p / 1) % stripes ≡ s = eqb-true _ _ (and_parts _ _ (subst (λ (o : Origin). has_page o p ≡ true) its.1 has)).1 in
      let stripe : (r + p) % stripes ≡ s = ap (λ (k : ℕ). (r + k) % stripes) (sym (div-one p)) ∙ own in
      subst (λ (k : ℕ). told_at (lane_at rows s k).told p ≡ Some (page_bytes n contents p)) (sym its.0) (subst (λ (k : ℕ). told_at (lane_at rows k r).told p ≡ Some (page_bytes n contents p)) stripe (tells p h)))

  owns : (p : ℕ) → p < g.size / n → AnyOwns path p (rows_flat rows)
  owns p h =
      let s : ℕ = (r + p) % stripes in
      let below : s < stripes = mod_below (r + p) stripes some_stripe in
      let is : (lane_at rows s r).origin ≡ region_origin n stripes s r g = lanes.origin s r g below known in
      own_rows path p rows s r (omega (arith, below, lanes.count)) (omega (arith, lanes.width s below, inside_of regions r g known))
      (subst (λ (o : Origin). (is_at path o.backing ≡ true) × (has_page o p ≡ true)) (sym is) (subst (λ (b : Backing). is_at path b ≡ true) (sym lies) ((bytes_eq-Decides path path).1 refl), both_true (lt-ltb p (g.size / n) h) (same (r + p / 1) (ap (λ (k : ℕ). r + k) (div-one p)))))
    where
      same : (a : ℕ) → a ≡ r + p → (a % stripes == (r + p) % stripes) ≡ true
      same a e = rw e (itself ((r + p) % stripes))
        where
          itself : (m : ℕ) → (m == m) ≡ true
          itself m = search rules

  -- what its lanes tell in the end stands in the region's file, and its further bytes are as they were
  pub region_end : (contents before : List ℕ) (old new : Shelf) → g.size ≡ g.size / n * n → length contents ≡ g.size → g.size ≤ length before → file_at old.files path ≡ Some before → TellContents n stripes rows r g.size contents → ClosesAll (rows_flat rows) old new → file_at new.files path ≡ Some (contents ++ drop g.size before)
  region_end contents before old new whole size fits there tells closes =
      subst (λ (k : ℕ). file_at new.files path ≡ Some (contents ++ drop k before)) size
      (file_end path n (g.size / n) contents before (rows_flat rows) old new some_page (size ∙ whole) (omega (arith, whole, fits)) there sized (λ p h. (tell contents tells p h, owns p h)) closes)

-- ---- openings

told_as : (b : Backing) (s : Shelf) (g : NamedRegion) (l : LaneSeen) → g.backing ≡ b → IsOpenedIn b (Some s) g l → TellsShare l (first_bytes s.files g)
told_as in_memory s g l is opened = subst (λ (b : Backing). TellsShare l (bytes_in s.files b g.size)) (sym is) opened
told_as (in_file own) s g l is opened = opened
told_as (in_files own file) s g l is opened = absurd opened

told_of_page : (o : Origin) (f : ℕ → List ℕ) (p : ℕ) → has_page o p ≡ true → told_at (told_by o f) p ≡ Some (f p)
told_of_page o f p has = told_at-told_by o f p ∙ cond-true (has_page o p) (Some (f p)) None has

pub start_tells : (s : Shelf) (n stripes : ℕ) (regions : List NamedRegion) (rows : List (List LaneSeen)) (r : ℕ) (g : NamedRegion) → AreOpened (Some s) n stripes regions rows → 0 < stripes → slice_get regions r ≡ Some g → TellContents n stripes rows r g.size (first_bytes s.files g)
start_tells s n stripes regions rows r g opened some known = λ p h.
    let t : ℕ = (r + p) % stripes in
    let below : t < stripes = mod_below (r + p) stripes some in
    let is : (lane_at rows t r).origin ≡ region_origin n stripes t r g = opened.lanes.origin t r g below known in
    let o : Origin = region_origin n stripes t r g in
    ap (λ (told : List (Option (List ℕ))). told_at told p) (told_as g.backing s g (lane_at rows t r) refl (opened.tells t r g below known))
    ∙ ap (λ (q : Origin). told_at (told_by q (page_bytes q.page_size (first_bytes s.files g))) p) is
    ∙ told_of_page o (page_bytes n (first_bytes s.files g)) p (both_true (lt-ltb p (g.size / n) h) (same (r + p / 1) t (ap (λ (k : ℕ). (r + k) % stripes) (div-one p))))
  where
    same : (a m : ℕ) → a % stripes ≡ m → (a % stripes == m) ≡ true
    same a m e = rw e (itself m)
      where
        itself : (m : ℕ) → (m == m) ≡ true
        itself m = search rules
