-- The last unmapping: which regions are unmapped behind lines, and what that leaves.
use Rattle.std.proofs.Common.{◌≡◌, inl, inr, ℕ, zero, suc, ◌+◌, ◌/◌, ◌<◌, ◌≤◌, ◌==◌, ◌&&◌, ◌||◌, not, nat_lt, Bool, true, false, cond, List, [], ◌∷◌, ◌++◌, length, refl, sym, ap, subst, ◌∙◌, arith, append_assoc}
use Rattle.std.specs.List.{filter, list_all, list_any}
use Rattle.std.proofs.lemmas.Bool.{cases_Bool, cases_lt, and_parts, and_from, or_cases, or_left, or_right, eqb-true, eq-eqb, cond-false}
use Rattle.std.proofs.lemmas.List.{append_cancel_right}
use Rattle.std.proofs.lemmas.List.Folds.{list_all-append, list_any-append}
use Rattle.std.proofs.lemmas.Nat.{mod_below}
use Rattle.histories.specs.Histories.{History, by}
use Rattle.page_base.specs.Lanes.{LaneSeen}
use Rattle.page_base.specs.Pages.{same}
use Rattle.page_base.specs.declared.keys.Key.{Key}
use Rattle.page_base.specs.declared.keys.Why.TheVariants.{Read, Write, Protected, Ahead}
use Rattle.page_model.specs.declared.entry.Entry.{Entry}
use Rattle.page_model.specs.declared.entry.Entry.TheVariants.{Load, Save, Hint, Raised, StartWrite, Written, WriteFailed, Evicted, Dropped, Closing, Unmapped}
use Rattle.page_model.specs.Bits.{is_dirty, is_some_and, opened_at, written_since}
use Rattle.page_model.specs.Closings.{is_unmapped}
use Rattle.page_model.specs.Entries.{is_access, of_stripe}
use Rattle.page_model.specs.Laws.{UnmappedIsEmptied}
use Rattle.region_table.specs.Regions.{TableSeen, shapes_of}
use Rattle.serial_pager.specs.Writings.{is_failed_write, is_failed_write_of}
use Rattle.workload_text.specs.Grammar.{Region}
use Rattle.workload_text.specs.Line.{Line, unmap_line}
use Rattle.workload_text.specs.Accepted.{AllFit}
use Rattle.flat_lines.specs.Spreads.{Spread, stripe_in}
use Rattle.script_run.specs.FitsJournals.{setup_at, FitsJournals}
use Rattle.script_run.specs.FitsLaws.{is_written, NoneFailed, LastUnmaps}
use Rattle.script_run.specs.FitsSerial.{spread_of, counts_named, fault_count_in}
use Rattle.script_run.specs.LineEntries.{Failure, Makes, AllMake, is_unmap_of, may_make, unmap_lines}
use Rattle.script_run.specs.Replies.{Reply, ok, unmapped, fault, is_fault_reply}
use Rattle.script_run.specs.declared.settings.Settings.{Settings}
use Rattle.script_run.proofs.InMemory.{names_one}
use Rattle.script_run.proofs.Raised.{failed_last}
use Rattle.script_run.proofs.States.{unmaps_unmapped, unmapped_stays, each_gone}
use Rattle.script_run.proofs.Walked.{all_weaker}

-- ---- regions that lines unmap

-- the last lines unmap every region
pub last_unmap : (n r : ℕ) → r < n → list_any (λ l. is_unmap_of l r) (unmap_lines n) ≡ true
last_unmap zero r below = absurd (omega (arith, below))
last_unmap (suc n) r below = list_any-append (λ l. is_unmap_of l r) (unmap_lines n) (unmap_line n ∷ []) ∙ elim (cases_lt r n) [
  | inl lt ↦ or_left (list_any (λ l. is_unmap_of l r) (unmap_lines n)) ((n == r) || false) (last_unmap n r lt)
  | inr top ↦ or_right (list_any (λ l. is_unmap_of l r) (unmap_lines n)) ((n == r) || false) (or_left (n == r) false (eq-eqb n r (omega (arith, below, top))))
]

-- and do nothing else
abbrev pub only_unmaps : Line → Bool
only_unmaps (unmap_line r) = true
only_unmaps l = false

pub last_only : (n : ℕ) → list_all only_unmaps (unmap_lines n) ≡ true
last_only zero = refl
last_only (suc n) = list_all-append only_unmaps (unmap_lines n) (unmap_line n ∷ []) ∙ and_from (list_all only_unmaps (unmap_lines n)) true (last_only n) refl

append_none : {A : Type 0} (xs ys : List A) → xs ++ ys ≡ [] → (xs ≡ []) × (ys ≡ [])
append_none [] ys e = (refl, e)
append_none (x ∷ xs) ys e = absurd (cc)

module _ (t : Spread) (some_stripe : 0 < t.stripes) (r : ℕ) where
  -- what is unmapped stays so
  pub stays_unmapped : (ls : List Line) (replies : List Reply) (behind all : ℕ → List Entry) (s : ℕ) → AllMake t ls replies behind all → is_unmapped (by 0 (behind s)) r ≡ true → is_unmapped (by 0 (all s)) r ≡ true
  stays_unmapped [] [] behind all s m gone = subst (λ es. is_unmapped (by 0 es) r ≡ true) (sym (m s)) gone
  stays_unmapped [] (a ∷ more) behind all s m gone = absurd m
  stays_unmapped (l ∷ ls) [] behind all s m gone = absurd m
  stays_unmapped (l ∷ ls) (a ∷ more) behind all s m gone = stays_unmapped ls more (λ n. m.0 n ++ behind n) all s m.2 (unmapped_stays r (m.0 s) (behind s) gone)

  -- a line that unmaps the region has done so, unless it was answered with a fault
  one_gone : (l : Line) (a : Reply) (behind made : ℕ → List Entry) → Makes t l a behind made → is_unmap_of l r ≡ true → ((s : ℕ) → s < t.stripes → fault_count_in t s r a ≡ []) → (s : ℕ) → s < t.stripes → is_unmapped (by 0 (made s ++ behind s)) r ≡ true
  one_gone (unmap_line q) ok behind made m is none s lt = subst (λ n. is_unmapped (by 0 (made s ++ behind s)) n ≡ true) (eqb-true q r is) (unmaps_unmapped q (behind s) (made s) (m.goes.1 s lt))
  one_gone (unmap_line q) (unmapped done) behind made m is none s lt = subst (λ n. is_unmapped (by 0 (made s ++ behind s)) n ≡ true) (eqb-true q r is) (unmapped_stays q (made s) (behind s) (each_gone t behind q m.goes.0 s lt))
  one_gone (unmap_line q) (fault k count done) behind made m is none s lt =
      let region : k.region ≡ r = m.goes.region ∙ eqb-true q r is in
      let e : count ∷ [] ≡ [] = sym (names_one t k count done) ∙ ap (λ n. fault_count_in t (stripe_in t k) n (fault k count done)) region ∙ none (stripe_in t k) (mod_below (k.region + k.page / t.group_of k.region) t.stripes some_stripe) in
      absurd (cc)
  one_gone (unmap_line q) a behind made m is none s lt = absurd m.goes
  one_gone l a behind made m is none s lt = absurd (cc)

  -- so a region that one of these lines unmaps is unmapped behind them, where none of its faults is named
  pub ends_gone : (ls : List Line) (replies : List Reply) (behind all : ℕ → List Entry) → AllMake t ls replies behind all → list_any (λ l. is_unmap_of l r) ls ≡ true → ((s : ℕ) → s < t.stripes → counts_named t s r replies ≡ []) → (s : ℕ) → s < t.stripes → is_unmapped (by 0 (all s)) r ≡ true
  ends_gone [] [] behind all m any none s lt = absurd (cc)
  ends_gone [] (a ∷ more) behind all m any none s lt = absurd m
  ends_gone (l ∷ ls) [] behind all m any none s lt = absurd m
  ends_gone (l ∷ ls) (a ∷ more) behind all m any none s lt = elim (or_cases (is_unmap_of l r) (list_any (λ x. is_unmap_of x r) ls) any) [
    | inl here ↦ stays_unmapped ls more (λ n. m.0 n ++ behind n) all s m.2 (one_gone l a behind m.0 m.1 here (λ n below. (append_none (fault_count_in t n r a) (counts_named t n r more) (none n below)).0) s lt)
    | inr there ↦ ends_gone ls more (λ n. m.0 n ++ behind n) all m.2 there (λ n below. (append_none (fault_count_in t n r a) (counts_named t n r more) (none n below)).1) s lt
  ]

-- ---- what lines that only unmap made

-- the entry opens no page
abbrev pub is_leaving : Entry → Bool
is_leaving (StartWrite k why) = true
is_leaving (Written k at bytes) = true
is_leaving (WriteFailed k n) = true
is_leaving (Evicted k why) = true
is_leaving (Dropped k) = true
is_leaving (Closing r) = true
is_leaving (Unmapped r) = true
is_leaving e = false

leaving_of : (z r : ℕ) (e : Entry) → may_make z (unmap_line r) e ≡ true → is_leaving e ≡ true
leaving_of z r (StartWrite k why) m = refl
leaving_of z r (Written k at bytes) m = refl
leaving_of z r (WriteFailed k n) m = refl
leaving_of z r (Evicted k why) m = refl
leaving_of z r (Dropped k) m = refl
leaving_of z r (Closing q) m = refl
leaving_of z r (Unmapped q) m = refl
leaving_of z r (Raised k Read) m = absurd (cc)
leaving_of z r (Raised k Write) m = absurd (cc)
leaving_of z r (Raised k Protected) m = absurd (cc)
leaving_of z r (Raised k Ahead) m = absurd (cc)
leaving_of z r e m = absurd (cc)

-- each fault among these replies tells of a failed write among these entries
abbrev pub AllFailed : Spread → List Reply → (top : ℕ → List Entry) → Type 0
AllFailed t [] top = Unit {0}
AllFailed t (fault k count done ∷ more) top = (list_any (is_failed_write_of k.region) (top (stripe_in t k)) ≡ true) × AllFailed t more top
AllFailed t (a ∷ more) top = AllFailed t more top

failed_more : (t : Spread) (replies : List Reply) (top behind : ℕ → List Entry) → AllFailed t replies top → AllFailed t replies (λ s. top s ++ behind s)
failed_more t [] top behind h = tt
failed_more t (fault k count done ∷ more) top behind h = (
  list_any-append (is_failed_write_of k.region) (top (stripe_in t k)) (behind (stripe_in t k)) ∙ or_left (list_any (is_failed_write_of k.region) (top (stripe_in t k))) (list_any (is_failed_write_of k.region) (behind (stripe_in t k))) h.0,
  failed_more t more top behind h.1,
)
failed_more t (a ∷ more) top behind h = failed_more t more top behind h

-- what such lines made, on top of what stood behind them
pub record Top (t : Spread) (replies : List Reply) (behind all : ℕ → List Entry) : Type 0 where
  pub top : ℕ → List Entry
  pub is : (s : ℕ) → all s ≡ top s ++ behind s
  pub leaving : (s : ℕ) → list_all is_leaving (top s) ≡ true
  pub failed : AllFailed t replies top

module _ (t : Spread) where
  one_leaving : (r : ℕ) (a : Reply) (behind made : ℕ → List Entry) → Makes t (unmap_line r) a behind made → (s : ℕ) → list_all is_leaving (made s) ≡ true
  one_leaving r a behind made m s =
      ap (list_all is_leaving) (m.in_order.made_are s)
      ∙ list_all-append is_leaving (of_stripe (stripe_in t) s m.failure) (m.in_order.served s)
      ∙ and_from _ _ (go a m.failure m.failure_is) (all_weaker (may_make t.page_size (unmap_line r)) is_leaving (leaving_of t.page_size r) (m.in_order.served s) (m.in_order.serve s))
    where
      go : (a : Reply) (es : List Entry) → Failure t.page_size (unmap_line r) a es → list_all is_leaving (of_stripe (stripe_in t) s es) ≡ true
      go (fault k count done) es f = ap (λ xs. list_all is_leaving (of_stripe (stripe_in t) s xs)) f ∙ one (stripe_in t k == s)
        where
          one : (b : Bool) → list_all is_leaving (cond b (WriteFailed k count ∷ []) []) ≡ true
          one true = refl
          one false = refl
      go a es f = ap (λ xs. list_all is_leaving (of_stripe (stripe_in t) s xs)) f

  -- a failed write stands in its stripe
  one_failed : (r : ℕ) (k : Key) (count done : ℕ) (behind made : ℕ → List Entry) → Makes t (unmap_line r) (fault k count done) behind made → list_any (is_failed_write_of k.region) (made (stripe_in t k)) ≡ true
  one_failed r k count done behind made m =
      ap (list_any (is_failed_write_of k.region)) (failed_last t (unmap_line r) (fault k count done) made behind m (WriteFailed k count) (stripe_in t k) m.failure_is (eq-eqb (stripe_in t k) (stripe_in t k) refl))
      ∙ or_left (k.region == k.region) (list_any (is_failed_write_of k.region) (m.in_order.served (stripe_in t k))) (eq-eqb k.region k.region refl)

  pub top_of : (ls : List Line) (replies : List Reply) (behind all : ℕ → List Entry) → list_all only_unmaps ls ≡ true → AllMake t ls replies behind all → Top t replies behind all
  top_of [] [] behind all only m = record { top = λ s. []; is = m; leaving = λ s. refl; failed = tt }
  top_of [] (a ∷ more) behind all only m = absurd m
  top_of (l ∷ ls) [] behind all only m = absurd m
  top_of (unmap_line r ∷ ls) (a ∷ more) behind all only m =
      let rest = top_of ls more (λ s. m.0 s ++ behind s) all only m.2 in
      record {
        top = λ s. rest.top s ++ m.0 s;
        is = λ s. rest.is s ∙ sym (append_assoc (rest.top s) (m.0 s) (behind s));
        leaving = λ s. list_all-append is_leaving (rest.top s) (m.0 s) ∙ and_from _ _ (rest.leaving s) (one_leaving r a behind m.0 m.1 s);
        failed = first r a more rest.top m.0 (failed_more t more rest.top m.0 rest.failed) behind m.1;
      }
    where
      first : (r : ℕ) (a : Reply) (more : List Reply) (top made : ℕ → List Entry) → AllFailed t more (λ s. top s ++ made s) → (behind : ℕ → List Entry) → Makes t (unmap_line r) a behind made → AllFailed t (a ∷ more) (λ s. top s ++ made s)
      first r (fault k count done) more top made h behind m = (
        list_any-append (is_failed_write_of k.region) (top (stripe_in t k)) (made (stripe_in t k)) ∙ or_right (list_any (is_failed_write_of k.region) (top (stripe_in t k))) (list_any (is_failed_write_of k.region) (made (stripe_in t k))) (one_failed r k count done behind made m),
        h,
      )
      first r a more top made h behind m = h
  top_of (l ∷ ls) (a ∷ more) behind all only m = absurd (cc)

  -- where no write of a region failed, none of its faults is named
  pub none_named_of : (r : ℕ) (replies : List Reply) (top : ℕ → List Entry) → AllFailed t replies top → ((n : ℕ) → list_any (is_failed_write_of r) (top n) ≡ false) → (s : ℕ) → counts_named t s r replies ≡ []
  none_named_of r [] top h none s = refl
  none_named_of r (fault k count done ∷ more) top h none s =
      ap (λ ns. ns ++ counts_named t s r more) here ∙ none_named_of r more top h.1 none s
    where
      here : cond (stripe_in t k == s && k.region == r) (count ∷ []) [] ≡ []
      here = elim (cases_Bool (stripe_in t k == s && k.region == r)) [
        | inl y ↦
            let region : k.region ≡ r = eqb-true k.region r (and_parts (stripe_in t k == s) (k.region == r) y).1 in
            absurd (let clash : true ≡ false = sym h.0 ∙ ap (λ n. list_any (is_failed_write_of n) (top (stripe_in t k))) region ∙ none (stripe_in t k) in cc)
        | inr n ↦ cond-false (stripe_in t k == s && k.region == r) (count ∷ []) [] n
      ]
  none_named_of r (a ∷ more) top h none s = none_named_of r more top h none s

  -- where there is a fault, a write failed
  pub some_failed_of : (some_stripe : 0 < t.stripes) (replies : List Reply) (top : ℕ → List Entry) → AllFailed t replies top → list_any is_fault_reply replies ≡ true → (s : ℕ) × (s < t.stripes) × (list_any is_failed_write (top s) ≡ true)
  some_failed_of some [] top h any = absurd (cc)
  some_failed_of some (fault k count done ∷ more) top h any = (stripe_in t k, mod_below (k.region + k.page / t.group_of k.region) t.stripes some, any_weaker k.region (top (stripe_in t k)) h.0)
    where
      weaker : (r : ℕ) (e : Entry) → is_failed_write_of r e ≡ true → is_failed_write e ≡ true
      weaker r (WriteFailed k n) f = refl
      weaker r e f = absurd (cc)

      any_weaker : (r : ℕ) (es : List Entry) → list_any (is_failed_write_of r) es ≡ true → list_any is_failed_write es ≡ true
      any_weaker r [] any = absurd (cc)
      any_weaker r (e ∷ es) any = elim (or_cases (is_failed_write_of r e) (list_any (is_failed_write_of r) es) any) [
        | inl here ↦ or_left (is_failed_write e) (list_any is_failed_write es) (weaker r e here)
        | inr there ↦ or_right (is_failed_write e) (list_any is_failed_write es) (any_weaker r es there)
      ]
  some_failed_of some (a ∷ more) top h any = some_failed_of some more top h any

-- such entries are no accesses
pub leaving_none : (es : List Entry) → list_all is_leaving es ≡ true → filter is_access es ≡ []
leaving_none [] all = refl
leaving_none (e ∷ es) all =
    let both = and_parts (is_leaving e) (list_all is_leaving es) all in
    ap (λ b. cond b (e ∷ filter is_access es) (filter is_access es)) (one e both.0) ∙ leaving_none es both.1
  where
    one : (e : Entry) → is_leaving e ≡ true → is_access e ≡ false
    one (Load k place bytes) h = absurd (cc)
    one (Save k place bytes) h = absurd (cc)
    one (Hint k answer) h = absurd (cc)
    one e h = refl

-- entries that open no page and leave a dirty page clean have written it
pub written_of : (k : Key) (older es : List Entry) → list_all is_leaving es ≡ true → is_dirty (by 0 older) k ≡ true → is_dirty (by 0 (es ++ older)) k ≡ false → list_any (is_written k) es ≡ true
written_of k older [] all dirty clean = absurd (let no : true ≡ false = sym dirty ∙ clean in cc)
written_of k older ((Written j at bytes) ∷ es) all dirty clean = elim (cases_Bool (same j k)) [
  | inl here ↦ or_left (same j k) (list_any (is_written k) es) here
  | inr other ↦
      let g : History Entry = by 0 (es ++ older) in
      let still : is_dirty g k ≡ false = sym (ap (λ (b : Bool). is_some_and (λ place. not (b && nat_lt place at || written_since g k place)) (opened_at g k)) other) ∙ clean in
      or_right (same j k) (list_any (is_written k) es) (written_of k older es all dirty still)
]
written_of k older ((StartWrite j why) ∷ es) all dirty clean = written_of k older es all dirty clean
written_of k older ((WriteFailed j n) ∷ es) all dirty clean = written_of k older es all dirty clean
written_of k older ((Evicted j why) ∷ es) all dirty clean = written_of k older es all dirty clean
written_of k older ((Dropped j) ∷ es) all dirty clean = written_of k older es all dirty clean
written_of k older ((Closing r) ∷ es) all dirty clean = written_of k older es all dirty clean
written_of k older ((Unmapped r) ∷ es) all dirty clean = written_of k older es all dirty clean
written_of k older (e ∷ es) all dirty clean = absurd (cc)

-- ---- the law on what journals have noted

module _ {J : Type 0} (has_noted : J → History Entry → Type 0) (c : Settings) (table : TableSeen) (lines : List Line) (rows ends : List (List LaneSeen)) (replies : List Reply) (failed : Bool) (journals : List J) (f : FitsJournals has_noted c table lines rows ends replies failed journals) where
  last_top : Top (spread_of c.layout) f.last_replies f.by_lines (λ s. f.last s ++ f.by_lines s)
  last_top = top_of (spread_of c.layout) (unmap_lines (length table.regions)) f.last_replies f.by_lines (λ s. f.last s ++ f.by_lines s) (last_only (length table.regions)) f.unmap

  last_is : (s : ℕ) → f.last s ≡ last_top.top s
  last_is s = append_cancel_right (f.last s) (last_top.top s) (f.by_lines s) (last_top.is s)

  last_gone : (r : ℕ) → r < length table.regions → NoneFailed r f.last → (s : ℕ) → s < c.layout.stripes → is_unmapped (by 0 (f.last s ++ f.by_lines s)) r ≡ true
  last_gone r known none = ends_gone (spread_of c.layout) (omega (arith, c.layout.some_stripe)) r (unmap_lines (length table.regions)) f.last_replies f.by_lines (λ s. f.last s ++ f.by_lines s) f.unmap (last_unmap (length table.regions) r known)
      (λ s below. none_named_of (spread_of c.layout) r f.last_replies last_top.top last_top.failed (λ n. ap (list_any (is_failed_write_of r)) (sym (last_is n)) ∙ none n) s)

  last_written : UnmappedIsEmptied → (s : ℕ) (k : Key) → s < c.layout.stripes → k.region < length table.regions → is_dirty (by 0 (f.by_lines s)) k ≡ true → NoneFailed k.region f.last → list_any (is_written k) (f.last s) ≡ true
  last_written law s k below known dirty none =
      let clean = (law (setup_at c (shapes_of table) rows s) (by 0 (f.last s ++ f.by_lines s)) k.region (f.legal s below) (last_gone k.region known none s below)).clean k refl in
      subst (λ es. list_any (is_written k) es ≡ true) (sym (last_is s))
      (written_of k (f.by_lines s) (last_top.top s) (last_top.leaving s) dirty (subst (λ es. is_dirty (by 0 es) k ≡ false) (last_top.is s) clean))

  last_failed : failed ≡ true → (s : ℕ) × (s < c.layout.stripes) × (list_any is_failed_write (f.last s) ≡ true)
  last_failed fails =
      let y = some_failed_of (spread_of c.layout) (omega (arith, c.layout.some_stripe)) f.last_replies last_top.top last_top.failed (sym f.failed_is ∙ fails) in
      (y.0, y.1, subst (λ es. list_any is_failed_write es ≡ true) (sym (last_is y.0)) y.2)

pub last_unmaps : UnmappedIsEmptied → {J : Type 0} (has_noted : J → History Entry → Type 0) → LastUnmaps has_noted
last_unmaps law has_noted = record {
  unmapped = λ c table lines rows ends replies failed journals s r f below known none. last_gone has_noted c table lines rows ends replies failed journals f r known none s below;
  written = λ c table lines rows ends replies failed journals s k f below known dirty none. last_written has_noted c table lines rows ends replies failed journals f law s k below known dirty none;
  failed = λ c table lines rows ends replies journals f. last_failed has_noted c table lines rows ends replies true journals f refl;
}
