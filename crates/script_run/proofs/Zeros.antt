-- Lanes over zeros, as the lanes of a workload.
use Rattle.std.proofs.Common.{◌≡◌, ◌≢◌, ℕ, zero, suc, ◌+◌, ◌*◌, ◌/◌, ◌%◌, ◌<◌, ◌≤◌, true, inl, inr, eqb, List, [], ◌∷◌, ◌++◌, length, take, drop, map, set, replicate, get_or, Option, Some, refl, sym, ap, subst, ◌∙◌, arith, append-nil, append_assoc, length-append, length-set, get_or-set_same, get_or-set_other}
use Rattle.std.specs.Option.{unwrap_or}
use Rattle.std.specs.List.{flat_map, enumerate_from}
use Rattle.std.proofs.lemmas.Bool.{and_from, and_parts, lt-ltb, eq-eqb, eqb-true, cases_lt}
use Rattle.std.proofs.lemmas.List.{get_or-map, length-map, length-replicate, get_or-replicate, take_all, take_more, length-take-le, map-set, map-append}
use Rattle.std.proofs.Math.Seq.{get_or-append_seam}
use Rattle.std.proofs.lemmas.Option.{slice_get-get_or}
use Rattle.std.proofs.lemmas.Nat.{div-add-mod', mod_below}
use Rattle.std.proofs.Math.Nat.{div-one, add-sub_cancel_left}
use Rattle.page_base.specs.ListSeen.{ListSeen}
use Rattle.page_base.specs.Backings.{in_memory, in_file, in_files}
use Rattle.page_base.specs.Lanes.{Origin, LaneSeen, has_page, told_at}
use Rattle.page_base.specs.declared.layout.Layout.{Layout}
use Rattle.store_trait.specs.Memory.{memory_origin, page_bytes}
use Rattle.store_trait.specs.MemLanes.{lane_seen, AreLanesOf}
use Rattle.store_trait.specs.declared.mem_lane.MemLane.{MemLane}
use Rattle.workload_text.specs.Line.{Line, map_line}
use Rattle.workload_text.specs.Grammar.{Region, size_at}
use Rattle.workload_text.specs.Accepted.{AllFit, regions_of}
use Rattle.workload_text.specs.Built.{is_in_memory}
use Rattle.workload_text.specs.View.{region, region_line, command_line, script_lines, lines_of}
use Rattle.workload_text.specs.declared.workload.MapLine.{MapLine}
use Rattle.workload_text.specs.declared.workload.Command.{Command}
use Rattle.workload_text.specs.declared.workload.Command.TheVariants.{Load, Store, Prefetch, Flush, Unmap}
use Rattle.workload_text.specs.declared.workload.Script.{Script}
use Rattle.workload_text.specs.declared.workload.Workload.{Workload}
use Rattle.script_run.specs.Contents.{joined, contents_by, contents_of, page_told, rows_in, pages_in, no_lane}
use Rattle.script_run.specs.Fits.{FitLanes, has_whole_pages, page_counts, share_of, shares_of, row_shares}
use Rattle.script_run.specs.InsideZeros.{AreSmall, PutsLanes, AreZeroRows, zero_lane, zero_row}
use Rattle.script_run.proofs.Contents.{joined-same}
use Rattle.script_run.proofs.FittedLanes.{pages_fit}
use Rattle.script_run.proofs.Openings.{item_at, sizes_small}
use Rattle.script_run.proofs.Streaming.{take_take_drop}
use Rattle.script_run.proofs.Lists.{told_of_page}

-- ---- the regions of a workload are those of its `map` lines

no_region_in : (cs : List Command) (ls : List Line) → regions_of (map command_line cs ++ ls) ≡ regions_of ls
no_region_in [] ls = refl
no_region_in (Load r off len ∷ cs) ls = no_region_in cs ls
no_region_in (Store r off bytes ∷ cs) ls = no_region_in cs ls
no_region_in (Prefetch r off len ∷ cs) ls = no_region_in cs ls
no_region_in (Flush ∷ cs) ls = no_region_in cs ls
no_region_in (Unmap r ∷ cs) ls = no_region_in cs ls

no_region_in_scripts : (ss : List Script) → regions_of (flat_map script_lines ss) ≡ []
no_region_in_scripts [] = refl
no_region_in_scripts (s ∷ ss) = no_region_in s.commands.items (flat_map script_lines ss) ∙ no_region_in_scripts ss

regions_of-maps : (ms : List MapLine) (ls : List Line) → regions_of (map region_line ms ++ ls) ≡ map region ms ++ regions_of ls
regions_of-maps [] ls = refl
regions_of-maps (m ∷ ms) ls = ap (λ (gs : List Region). region m ∷ gs) (regions_of-maps ms ls)

pub regions_are : (w : Workload) → regions_of (lines_of w) ≡ map region w.maps.items
regions_are w = regions_of-maps w.maps.items (flat_map script_lines w.scripts.items) ∙ ap (λ (gs : List Region). map region w.maps.items ++ gs) (no_region_in_scripts w.scripts.items) ∙ append-nil (map region w.maps.items)

pub joined-page_of : (size n : ℕ) (xs : List ℕ) → n * size ≤ length xs → joined n (page_bytes size xs) ≡ take (n * size) xs
joined-page_of size zero xs fits = let none : 0 * size ≡ 0 = omega arith in sym (ap (λ (k : ℕ). take k xs) none)
joined-page_of size (suc n) xs fits =
    ap (λ (ys : List ℕ). ys ++ page_bytes size xs n) (joined-page_of size n xs (omega arith))
    ∙ ap (λ (k : ℕ). take (n * size) xs ++ take k (drop (n * size) xs)) (add-sub_cancel_left (n * size) size)
    ∙ take_take_drop (n * size) size xs (omega arith)
    ∙ ap (λ (k : ℕ). take k xs) (omega arith)

-- ---- regions in memory are small

sized : (z : ℕ) (gs : List Region) (ls : List Line) → is_in_memory ls ≡ true → AllFit gs ls → (r : ℕ) → r < length (regions_of ls) → 1 ≤ size_at (regions_of ls) r
sized z gs [] memory fit r below = absurd (omega arith)
sized z gs (map_line name in_memory size writable ∷ ls) memory fit zero below = fit.0.least
sized z gs (map_line name in_memory size writable ∷ ls) memory fit (suc r) below = sized z gs ls memory fit.1 r (omega arith)
sized z gs (map_line name (in_file path) size writable ∷ ls) memory fit r below = absurd (cc memory)
sized z gs (map_line name (in_files path file) size writable ∷ ls) memory fit r below = absurd (cc memory)
sized z gs (l ∷ ls) memory fit r below = sized z gs ls memory fit.1 r below

whole_at : (z : ℕ) (gs : List Region) → has_whole_pages z gs ≡ true → (r : ℕ) → r < length gs → size_at gs r ≡ size_at gs r / z * z
whole_at z [] pages r below = absurd (omega arith)
whole_at z (g ∷ gs) pages zero below = omega (arith, div-add-mod' g.size z, eqb-true (g.size % z) 0 (and_parts _ _ pages).0)
whole_at z (g ∷ gs) pages (suc r) below = whole_at z gs (and_parts _ _ pages).1 r (omega arith)

pub regions_small : (z : ℕ) (ls : List Line) → is_in_memory ls ≡ true → AllFit (regions_of ls) ls → has_whole_pages z (regions_of ls) ≡ true → AreSmall z (regions_of ls)
regions_small z ls memory fit pages = record {
  some = λ r below. sized z (regions_of ls) ls memory fit r below;
  most = λ r below. sizes_small (regions_of ls) ls memory fit r;
  whole = λ r below. whole_at z (regions_of ls) pages r below;
}

-- ---- rows of lanes over zeros

zero_row-more : (z n s k : ℕ) (gs : List Region) (g : Region) → zero_row z n s k (gs ++ g ∷ []) ≡ zero_row z n s k gs ++ zero_lane z n s (k + length gs) g ∷ []
zero_row-more z n s k [] g = ap (λ (r : ℕ). zero_lane z n s r g ∷ []) (omega arith)
zero_row-more z n s k (x ∷ gs) g =
    let e : k + 1 + length gs ≡ k + length (x ∷ gs) = omega arith in
    ap (λ (ls : List LaneSeen). zero_lane z n s k x ∷ ls) (zero_row-more z n s (k + 1) gs g ∙ ap (λ (r : ℕ). zero_row z n s (k + 1) gs ++ zero_lane z n s r g ∷ []) e)

pub rows_begin : (z n : ℕ) (rows : List (List LaneSeen)) → rows ≡ replicate n [] → AreZeroRows z n [] rows
rows_begin z n rows e = record {
  count = ap length e ∙ length-replicate n [];
  each = λ s below. ap (λ (xs : List (List LaneSeen)). get_or xs s []) e ∙ get_or-replicate n s [] [] below;
}

-- the lanes of one region, as they are seen
lanes_are : (region z n : ℕ) (g : Region) (lanes : List MemLane) → AreLanesOf region (g.size / z) z n (replicate g.size 0) lanes → (s : ℕ) → s < n → get_or (map lane_seen lanes) s no_lane ≡ zero_lane z n s region g
lanes_are region z n g lanes are s below =
    let there : s < length lanes = omega (arith, are.count) in
    let lane = item_at lanes s there in
    get_or-map lane_seen lanes s lane.0 no_lane there ∙ ap lane_seen lane.1
    ∙ are.each s lane.0 (slice_get-get_or lanes s lane.0 there ∙ ap Some lane.1)

-- the rows have got the lanes of one region more
pub rows_more : (z n i : ℕ) (gs : List Region) (g : Region) (lanes : List MemLane) (old new : List (List LaneSeen)) → i < length gs → g ≡ get_or gs i g → AreLanesOf i (g.size / z) z n (replicate g.size 0) lanes → AreZeroRows z n (take i gs) old → PutsLanes (map lane_seen lanes) old new → AreZeroRows z n (take (i + 1) gs) new
rows_more z n i gs g lanes old new below is are rows puts = record {
  count = puts.count ∙ rows.count;
  each = λ s there.
      let here : length (take i gs) ≡ i = length-take-le i gs (omega arith) in
      puts.each s (omega (arith, rows.count))
      ∙ ap (λ (row : List LaneSeen). row ++ get_or (map lane_seen lanes) s no_lane ∷ []) (rows.each s there)
      ∙ ap (λ (l : LaneSeen). zero_row z n s 0 (take i gs) ++ l ∷ []) (lanes_are i z n g lanes are s there ∙ ap (λ (r : ℕ). zero_lane z n s r g) (omega (arith, here)))
      ∙ sym (zero_row-more z n s 0 (take i gs) g)
      ∙ ap (zero_row z n s 0) (ap (λ (x : Region). take i gs ++ x ∷ []) is ∙ sym (take_more gs i g below));
}

zero_row-shares : (z n s k : ℕ) (gs : List Region) → map (λ (l : LaneSeen). share_of l.origin) (zero_row z n s k gs) ≡ map (λ (e : ℕ × ℕ). memory_origin e.0 e.1 z n s) (enumerate_from k (page_counts z gs))
zero_row-shares z n s k [] = refl
zero_row-shares z n s k (g ∷ gs) = ap (λ (os : List Origin). memory_origin k (g.size / z) z n s ∷ os) (zero_row-shares z n s (k + 1) gs)

zero_row-at : (z n s k r : ℕ) (gs : List Region) (g : Region) → r < length gs → get_or (zero_row z n s k gs) r no_lane ≡ zero_lane z n s (k + r) (get_or gs r g)
zero_row-at z n s k r [] g below = absurd (omega arith)
zero_row-at z n s k zero (x ∷ gs) g below = ap (λ (q : ℕ). zero_lane z n s q x) (omega arith)
zero_row-at z n s k (suc r) (x ∷ gs) g below =
    let e : k + 1 + r ≡ k + suc r = omega arith in
    zero_row-at z n s (k + 1) r gs g (omega arith) ∙ ap (λ (q : ℕ). zero_lane z n s q (get_or gs r g)) e

zeros_from : (k : ℕ) (gs : List Region) (z : ℕ) (page : ℕ → ℕ → List ℕ) → has_whole_pages z gs ≡ true → ((r p : ℕ) (g : Region) → r < length gs → get_or gs r g ≡ g → p < g.size / z → page (k + r) p ≡ page_bytes z (replicate g.size 0) p) → map (λ (e : ℕ × ℕ). joined e.1 (page e.0)) (enumerate_from k (page_counts z gs)) ≡ map (λ (g : Region). replicate g.size 0) gs
zeros_from k [] z page pages told = refl
zeros_from k (g ∷ gs) z page pages told =
    let p = and_parts (eqb (g.size % z) 0) (has_whole_pages z gs) pages in
    let whole : g.size ≡ g.size / z * z = omega (arith, div-add-mod' g.size z, eqb-true (g.size % z) 0 p.0) in
    let len : length {A = ℕ} (replicate g.size 0) ≡ g.size = length-replicate g.size 0 in
    let first : joined (g.size / z) (page k) ≡ replicate g.size 0 =
    joined-same (g.size / z) (page_bytes z (replicate g.size 0)) (page k) (λ q below. ap (λ (r : ℕ). page r q) (omega arith) ∙ told 0 q g (omega arith) refl below)
    ∙ joined-page_of z (g.size / z) (replicate g.size 0) (omega (arith, len, whole))
    ∙ ap (λ (m : ℕ). take m (replicate g.size 0)) (sym whole)
    ∙ take_all g.size (replicate g.size 0) (omega (arith, len)) in
    let rest = zeros_from (k + 1) gs z page p.1 (λ r q h below e inside. ap (λ (m : ℕ). page m q) (omega arith) ∙ told (suc r) q h (omega arith) e inside) in
    ap (λ (xs : List ℕ). xs ∷ map (λ (e : ℕ × ℕ). joined e.1 (page e.0)) (enumerate_from (k + 1) (page_counts z gs))) first
    ∙ ap (λ (xs : List (List ℕ)). replicate g.size 0 ∷ xs) rest

module _ (layout : Layout) (gs : List Region) (rows : List (List LaneSeen)) (pages : has_whole_pages layout.page_size gs ≡ true) (are : AreZeroRows layout.page_size layout.stripes gs rows) where
  shares_are : (s : ℕ) → s < length rows → get_or (shares_of rows) s [] ≡ row_shares layout.page_size layout.stripes s (page_counts layout.page_size gs)
  shares_are s below =
      get_or-map (λ (row : List LaneSeen). map (λ (l : LaneSeen). share_of l.origin) row) rows s [] [] below
      ∙ ap (λ (row : List LaneSeen). map (λ (l : LaneSeen). share_of l.origin) row) (are.each s (omega (arith, are.count)))
      ∙ zero_row-shares layout.page_size layout.stripes s 0 gs

  pub zeros_fit : FitLanes layout gs rows
  zeros_fit = record {
    stripes = are.count;
    whole = pages;
    lanes = λ s below. shares_are s below ∙ ap (λ (n : ℕ). row_shares layout.page_size n s (page_counts layout.page_size gs)) (sym are.count);
  }

  some_row : 0 < length rows
  some_row = omega (arith, are.count, layout.some_stripe)

  pages_are : pages_in rows ≡ page_counts layout.page_size gs
  pages_are = pages_fit layout gs rows zeros_fit

  told_are : (r p : ℕ) (g : Region) → r < length gs → get_or gs r g ≡ g → p < g.size / layout.page_size → page_told rows (0 + r) p ≡ page_bytes layout.page_size (replicate g.size 0) p
  told_are r p g below is inside =
      let s : ℕ = (0 + r + p) % length rows in
      let there : s < length rows = mod_below (0 + r + p) (length rows) some_row in
      let o : Origin = memory_origin (0 + r) (g.size / layout.page_size) layout.page_size layout.stripes s in
      let has : has_page o p ≡ true = and_from _ _ (lt-ltb p (g.size / layout.page_size) inside) (eq-eqb _ _ (ap (λ (x : ℕ). (0 + r + x) % layout.stripes) (div-one p) ∙ ap (λ (n : ℕ). (0 + r + p) % n) (sym are.count))) in
      let lane : get_or (get_or rows s []) (0 + r) no_lane ≡ zero_lane layout.page_size layout.stripes s (0 + r) g =
      ap (λ (row : List LaneSeen). get_or row (0 + r) no_lane) (are.each s (omega (arith, are.count)))
      ∙ ap (λ (q : ℕ). get_or (zero_row layout.page_size layout.stripes s 0 gs) q no_lane) (omega arith)
      ∙ zero_row-at layout.page_size layout.stripes s 0 r gs g below
      ∙ ap (zero_lane layout.page_size layout.stripes s (0 + r)) is in
      ap (λ (l : LaneSeen). unwrap_or (told_at l.told p) []) lane
      ∙ ap (λ (t : Option (List ℕ)). unwrap_or t []) (told_of_page o (page_bytes layout.page_size (replicate g.size 0)) p has)

  pub zeros_are : contents_of rows ≡ map (λ (g : Region). replicate g.size 0) gs
  zeros_are = ap (λ (ps : List ℕ). contents_by ps (page_told rows)) pages_are ∙ zeros_from 0 gs layout.page_size (page_told rows) pages told_are

-- ---- the loop that puts lanes

-- the lanes that are left belong to the first stripes, whose rows are as before; the others have got theirs
pub record PutsSome (lanes left : List MemLane) (old new : List (List LaneSeen)) : Type 0 where
  pub done : List MemLane
  pub all : lanes ≡ left ++ done
  pub count : length new ≡ length old
  pub front : (s : ℕ) → s < length left → get_or new s [] ≡ get_or old s []
  pub back : (s : ℕ) → length left ≤ s → s < length old → get_or new s [] ≡ get_or old s [] ++ get_or (map lane_seen lanes) s no_lane ∷ []

module _ (lanes left rest : List MemLane) (lane : MemLane) (old : List (List LaneSeen)) (rows : List (ListSeen MemLane)) (row more : ListSeen MemLane) (k : ℕ) (is : left ≡ rest ++ lane ∷ []) (at : k ≡ length rest) (below : k < length rows) (here : row ≡ get_or rows k row) (put : more.items ≡ row.items ++ lane ∷ []) (puts : PutsSome lanes left old (rows_in rows)) where
  left_len : length left ≡ k + 1
  left_len = ap length is ∙ length-append rest (lane ∷ []) ∙ omega arith

  all_more : lanes ≡ rest ++ (lane ∷ puts.done)
  all_more = puts.all ∙ ap (λ (ls : List MemLane). ls ++ puts.done) is ∙ append_assoc rest (lane ∷ []) puts.done

  lane_at : get_or (map lane_seen lanes) k no_lane ≡ lane_seen lane
  lane_at =
      let inside : k < length lanes = omega (arith, ap (length {A = MemLane}) all_more, length-append rest (lane ∷ puts.done)) in
      get_or-map lane_seen lanes k lane no_lane inside
      ∙ ap lane_seen (ap (λ (ls : List MemLane). get_or ls k lane) all_more ∙ ap (λ (n : ℕ). get_or (rest ++ (lane ∷ puts.done)) n lane) at ∙ get_or-append_seam rest lane puts.done lane)

  rows_len : length (rows_in rows) ≡ length rows
  rows_len = length-map rows (λ (st : ListSeen MemLane). map lane_seen st.items)

  now : rows_in (set rows k more) ≡ set (rows_in rows) k (map lane_seen more.items)
  now = map-set (λ (st : ListSeen MemLane). map lane_seen st.items) rows k more

  changed : get_or (rows_in (set rows k more)) k [] ≡ get_or old k [] ++ get_or (map lane_seen lanes) k no_lane ∷ []
  changed =
      ap (λ (xs : List (List LaneSeen)). get_or xs k []) now
      ∙ get_or-set_same (rows_in rows) k (map lane_seen more.items) [] (omega (arith, rows_len))
      ∙ ap (map lane_seen) put
      ∙ map-append lane_seen row.items (lane ∷ [])
      ∙ ap (λ (ls : List LaneSeen). ls ++ lane_seen lane ∷ []) (ap (λ (st : ListSeen MemLane). map lane_seen st.items) here ∙ sym (get_or-map (λ (st : ListSeen MemLane). map lane_seen st.items) rows k row [] below) ∙ puts.front k (omega (arith, left_len)))
      ∙ ap (λ (l : LaneSeen). get_or old k [] ++ l ∷ []) (sym lane_at)

  kept : (s : ℕ) → s ≢ k → get_or (rows_in (set rows k more)) s [] ≡ get_or (rows_in rows) s []
  kept s other = ap (λ (xs : List (List LaneSeen)). get_or xs s []) now ∙ get_or-set_other (rows_in rows) k s (map lane_seen more.items) [] other

  pub puts_more : PutsSome lanes rest old (rows_in (set rows k more))
  puts_more = record {
    done = lane ∷ puts.done;
    all = all_more;
    count = ap length now ∙ length-set (rows_in rows) k (map lane_seen more.items) ∙ puts.count;
    front = λ s front. kept s (λ e. omega (arith, e)) ∙ puts.front s (omega (arith, left_len));
    back = λ s past inside. elim (cases_lt k s) [
      | inl later ↦ kept s (λ e. omega (arith, e)) ∙ puts.back s (omega (arith, left_len)) inside
      | inr same ↦
          let e : s ≡ k = omega arith in
          subst (λ (q : ℕ). get_or (rows_in (set rows k more)) q [] ≡ get_or old q [] ++ get_or (map lane_seen lanes) q no_lane ∷ []) (sym e) changed
    ];
  }
