-- Runs over lanes in memory, whose calls never fail.
use Rattle.std.proofs.Common.{◌≡◌, inl, inr, ℕ, zero, suc, ◌+◌, ◌/◌, ◌<◌, ◌≤◌, Bool, true, false, cond, ◌||◌, ◌==◌, List, [], ◌∷◌, ◌++◌, length, map, get_or, Option, Some, is_some, slice_get, refl, sym, ap, subst, ◌∙◌, arith}
use Rattle.std.specs.List.{list_any, list_all, range_with_len}
use Rattle.std.proofs.lemmas.Bool.{cases_Bool, and_from, eq-eqb, lt-ltb}
use Rattle.std.proofs.lemmas.Nat.{mod_below}
use Rattle.std.proofs.lemmas.Option.{get_or_from_slice_get}
use Rattle.page_base.specs.ListSeen.{ListSeen}
use Rattle.page_base.specs.Lanes.{Origin, LaneSeen, told_at}
use Rattle.page_base.specs.Lanes as lanes
use Rattle.page_base.specs.Pages.{stripe_of}
use Rattle.page_base.specs.declared.keys.Key.{Key}
use Rattle.page_base.specs.declared.layout.Layout.{Layout}
use Rattle.store_trait.specs.Memory.{memory_origin, page_bytes}
use Rattle.store_trait.specs.MemLanes.{lane_origin, lane_seen}
use Rattle.store_trait.specs.declared.mem_lane.MemLane.{MemLane}
use Rattle.workload_text.specs.Line.{Line, load_line, store_line, flush_line, unmap_line}
use Rattle.workload_text.specs.Grammar.{Region}
use Rattle.workload_text.specs.Accepted.{AllFit, regions_of}
use Rattle.script_run.specs.Serial.{serial_text}
use Rattle.script_run.specs.Contents.{no_lane, rows_in, pages_in, contents_of}
use Rattle.script_run.specs.Fits.{FitLanes, share_of, page_counts}
use Rattle.script_run.specs.Replies.{Reply, fault, is_fault_reply}
use Rattle.flat_lines.specs.Spreads.{Spread, stripe_in}
use Rattle.script_run.specs.FitsSerial.{spread_of, lane_at, region_is_told, StoresTo, AnyStoresTo, RunState, all_open, MayAnswer, AllAnswer, left, fault_count_in, counts_named, Rising, CountsFit, last_count, EndSeen, FitsSerial}
use Rattle.script_run.specs.FitsLaws.{AllTold}
use Rattle.script_run.proofs.FittedLanes.{there, lane_there, row_len, lane_is, pages_fit, some_row}
use Rattle.script_run.proofs.WithoutFaults.{without_faults}
use Rattle.script_run.proofs.Lists.{told_of_page}

-- ---- a fault names a region that is there

abbrev pub AllKnown : List Region → List Reply → Type 0
AllKnown gs [] = Unit {0}
AllKnown gs (fault k count done ∷ more) = (k.region < length gs) × AllKnown gs more
AllKnown gs (a ∷ more) = AllKnown gs more

stores_known : (gs : List Region) (z : ℕ) (k : Key) (l : Line) → AllFit gs (l ∷ []) → StoresTo z k l → k.region < length gs
stores_known gs z k (store_line r off bytes) fit s = subst (λ n. n < length gs) (sym s.0) fit.0.range.known
stores_known gs z k l fit s = absurd s

module _ (gs : List Region) (t : Spread) (told : ℕ → Bool) where
  abbrev KnownIn : List Line → Type 0
  KnownIn lines = (k : Key) → AnyStoresTo t.page_size lines k → k.region < length gs

  known_more : (lines : List Line) (l : Line) → AllFit gs (l ∷ []) → KnownIn lines → KnownIn (l ∷ lines)
  known_more lines l fit all k s = elim s [ inl here ↦ stores_known gs t.page_size k l fit here | inr more ↦ all k more ]

  fault_known : (lines : List Line) (x : RunState) (l : Line) (k : Key) (count done : ℕ) → AllFit gs (l ∷ []) → KnownIn lines → MayAnswer t told lines x l (fault k count done) → k.region < length gs
  fault_known lines x (load_line r off len) k count done fit all m = elim m.names [
    | inl e ↦ subst (λ n. n < length gs) (sym (ap (λ (j : Key). j.region) e)) fit.0.known
    | inr more ↦ all k more.1
  ]
  fault_known lines x (store_line r off bytes) k count done fit all m = elim m.names [
    | inl e ↦ subst (λ n. n < length gs) (sym (ap (λ (j : Key). j.region) e)) fit.0.range.known
    | inr more ↦ all k more.1
  ]
  fault_known lines x flush_line k count done fit all m = all k m
  fault_known lines x (unmap_line r) k count done fit all m = all k m.2
  fault_known lines x l k count done fit all m = absurd m

  pub all_known : (before : List Line) (x : RunState) (lines : List Line) (replies : List Reply) → AllFit gs lines → KnownIn before → AllAnswer t told before x lines replies → AllKnown gs replies
  all_known before x [] [] fit all m = tt
  all_known before x [] (a ∷ more) fit all m = absurd m
  all_known before x (l ∷ ls) [] fit all m = absurd m
  all_known before x (l ∷ ls) (fault k count done ∷ more) fit all m = (
    fault_known (l ∷ before) x l k count done (fit.0, tt) (known_more before l (fit.0, tt) all) m.0,
    all_known (l ∷ before) (left t x l (fault k count done)) ls more fit.1 (known_more before l (fit.0, tt) all) m.1,
  )
  all_known before x (l ∷ ls) (a ∷ more) fit all m = all_known (l ∷ before) (left t x l a) ls more fit.1 (known_more before l (fit.0, tt) all) m.1

-- ---- where no count is named, there is no fault

pub names_one : (t : Spread) (k : Key) (count done : ℕ) → fault_count_in t (stripe_in t k) k.region (fault k count done) ≡ count ∷ []
names_one t k count done = ap (λ b. cond b (count ∷ []) []) (and_from (stripe_in t k == stripe_in t k) (k.region == k.region) (eq-eqb _ _ refl) (eq-eqb _ _ refl))

none_named : (gs : List Region) (t : Spread) (replies : List Reply) → 0 < t.stripes → AllKnown gs replies → ((s r : ℕ) → s < t.stripes → r < length gs → counts_named t s r replies ≡ []) → list_any is_fault_reply replies ≡ false
none_named gs t [] some known none = refl
none_named gs t (fault k count done ∷ more) some known none =
    let e : (count ∷ []) ++ counts_named t (stripe_in t k) k.region more ≡ [] = ap (λ ns. ns ++ counts_named t (stripe_in t k) k.region more) (sym (names_one t k count done)) ∙ none (stripe_in t k) k.region (mod_below (k.region + k.page / t.group_of k.region) t.stripes some) known.0 in
    absurd (cc)
none_named gs t (a ∷ more) some known none = none_named gs t more some known none

last_some : (n : ℕ) (ns : List ℕ) → 1 ≤ n → Rising n ns → 1 ≤ last_count n ns
last_some n [] some rising = some
last_some n (m ∷ ms) some rising = last_some m ms (omega (arith, rising.0)) rising.1

none_counted : (first : ℕ) (named : List ℕ) (last : ℕ) → CountsFit first named last → last ≡ 0 → named ≡ []
none_counted first [] last fit e = refl
none_counted first (n ∷ ns) last fit e = absurd (omega (arith, last_some n ns (omega (arith, fit.rising.0)) fit.rising.1, fit.within, e))

-- ---- lanes in memory

zero_in : (row : List MemLane) (r : ℕ) → (get_or (map lane_seen row) r no_lane).count ≡ 0
zero_in [] r = refl
zero_in (l ∷ ls) zero = refl
zero_in (l ∷ ls) (suc r) = zero_in ls r

pub zero_counts : (stripes : List (ListSeen MemLane)) (s r : ℕ) → (lane_at (rows_in stripes) s r).count ≡ 0
zero_counts [] s r = refl
zero_counts (st ∷ sts) zero r = zero_in st.items r
zero_counts (st ∷ sts) (suc s) r = zero_counts sts s r

pub from_range : (P : ℕ → Bool) (a n : ℕ) → ((i : ℕ) → a ≤ i → i < a + n → P i ≡ true) → list_all P (range_with_len a n) ≡ true
from_range P a zero each = refl
from_range P a (suc n) each = and_from (P a) (list_all P (range_with_len (a + 1) n)) (each a (omega arith) (omega arith)) (from_range P (a + 1) n (λ i low high. each i (omega (arith, low)) (omega (arith, high))))

mem_at : (P : LaneSeen → Type 0) (row : List MemLane) (r : ℕ) (lane : LaneSeen) → slice_get (map lane_seen row) r ≡ Some lane → ((x : MemLane) → P (lane_seen x)) → P lane
mem_at P [] r lane e all = absurd (cc)
mem_at P (x ∷ xs) zero lane e all = subst P (some_l e) (all x)
  where
    some_l : {a b : LaneSeen} → Some a ≡ Some b → a ≡ b
    some_l {a} {b} e = ap (from a) e
      where
        from : LaneSeen → Option LaneSeen → LaneSeen
        from d (Some c) = c
        from d o = d
mem_at P (x ∷ xs) (suc r) lane e all = mem_at P xs r lane e all

mem_row : (P : List LaneSeen → Type 0) (stripes : List (ListSeen MemLane)) (s : ℕ) (row : List LaneSeen) → slice_get (rows_in stripes) s ≡ Some row → ((st : List MemLane) → P (map lane_seen st)) → P row
mem_row P [] s row e all = absurd (cc)
mem_row P (st ∷ sts) zero row e all = subst P (some_r e) (all st.items)
  where
    some_r : {a b : List LaneSeen} → Some a ≡ Some b → a ≡ b
    some_r {a} {b} e = ap (from a) e
      where
        from : List LaneSeen → Option (List LaneSeen) → List LaneSeen
        from d (Some c) = c
        from d o = d
mem_row P (st ∷ sts) (suc s) row e all = mem_row P sts s row e all

-- a lane in memory tells each of its pages
mem_tells : (x : MemLane) (page : ℕ) → lanes.has_page (lane_origin x) page ≡ true → is_some (told_at (lane_seen x).told page) ≡ true
mem_tells x page has = ap is_some (told_of_page (lane_origin x) (λ (q : ℕ). page_bytes x.page_size x.kept.items (q / x.stripes)) page has)

module _ (layout : Layout) (gs : List Region) (stripes : List (ListSeen MemLane)) (fit : FitLanes layout gs (rows_in stripes)) where
  pub all_told : AllTold (rows_in stripes)
  all_told r = from_range (λ page. is_some (told_at (lane_at (rows_in stripes) (stripe_of (length (rows_in stripes)) 1 r page) r).told page)) 0 (get_or (pages_in (rows_in stripes)) r 0) (λ page low high. one page (subst (λ (ps : List ℕ). page < get_or ps r 0) (pages_fit layout gs (rows_in stripes) fit) (omega (arith, high))))
    where
      one : (page : ℕ) → page < get_or (page_counts layout.page_size gs) r 0 → is_some (told_at (lane_at (rows_in stripes) (stripe_of (length (rows_in stripes)) 1 r page) r).told page) ≡ true
      one page below =
          let rows : List (List LaneSeen) = rows_in stripes in
          let s : ℕ = stripe_of (length rows) 1 r page in
          let s_below : s < length rows = mod_below (r + page / 1) (length rows) (some_row layout gs rows fit) in
          let known : r < length gs = region_known gs r below in
          let row = there rows s s_below in
          let lane = there row.0 r (omega (arith, known, row_len layout gs rows fit s s_below, ap length (get_or_from_slice_get rows s row.0 [] row.1))) in
          let is : lane_at rows s r ≡ lane.0 = lane_there rows s r row.0 lane.0 row.1 lane.1 in
          let o : share_of lane.0.origin ≡ memory_origin r (get_or (page_counts layout.page_size gs) r 0) layout.page_size (length rows) s = ap (λ (l : LaneSeen). share_of l.origin) (sym is) ∙ lane_is layout gs rows fit s r s_below known in
          let has : lanes.has_page lane.0.origin page ≡ true = ap (λ (x : Origin). lanes.has_page x page) o ∙ and_from _ _ (lt-ltb page (get_or (page_counts layout.page_size gs) r 0) below) (eq-eqb _ _ refl) in
          let tells : lanes.has_page lane.0.origin page ≡ true → is_some (told_at lane.0.told page) ≡ true =
          mem_row (λ (x : List LaneSeen). slice_get x r ≡ Some lane.0 → lanes.has_page lane.0.origin page ≡ true → is_some (told_at lane.0.told page) ≡ true) stripes s row.0 row.1
          (λ st e. mem_at (λ (l : LaneSeen). lanes.has_page l.origin page ≡ true → is_some (told_at l.told page) ≡ true) st r lane.0 e (λ x h. mem_tells x page h)) lane.1 in
          ap (λ (l : LaneSeen). is_some (told_at l.told page)) is ∙ tells has
        where
          region_known : (gs : List Region) (r : ℕ) → page < get_or (page_counts layout.page_size gs) r 0 → r < length gs
          region_known [] r below = absurd (omega (arith, below))
          region_known (g ∷ gs) zero below = omega arith
          region_known (g ∷ gs) (suc r) below = omega (arith, region_known gs r below)

-- the text is the serial text
pub memory_text : (layout : Layout) (lines : List Line) (stripes ends : List (ListSeen MemLane)) (e : EndSeen) → FitLanes layout (regions_of lines) (rows_in stripes) → AllFit (regions_of lines) lines → FitsSerial (spread_of layout) lines (rows_in stripes) (rows_in ends) e → e.text ≡ serial_text (contents_of (rows_in stripes)) lines
memory_text layout lines stripes ends e fit all f =
    let t : Spread = spread_of layout in
    let gs : List Region = regions_of lines in
    let known : AllKnown gs f.replies = all_known gs t (region_is_told (rows_in stripes)) [] (all_open (contents_of (rows_in stripes))) lines f.replies all (λ k s. absurd s) f.answered in
    let none : list_any is_fault_reply f.replies ≡ false = none_named gs t f.replies (omega (arith, layout.some_stripe)) known (λ s r stripe region. none_counted (lane_at (rows_in stripes) s r).count (counts_named t s r f.replies) (lane_at (rows_in ends) s r).count (f.counts s r stripe region) (zero_counts ends s r)) in
    let calm : f.failed ≡ false = elim (cases_Bool f.failed) [
      | inl failed ↦ absurd (let x = f.rose failed in omega (arith, x.4, zero_counts ends x.0 x.1))
      | inr fine ↦ fine
    ] in
    let clear : e.faulted ≡ false = f.flag ∙ ap (λ b. b || f.failed) none ∙ calm in
    (without_faults t lines (rows_in stripes) (rows_in ends) e (omega (arith, layout.some_stripe)) f (all_told layout gs stripes fit) clear).text_is
