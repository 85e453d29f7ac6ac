-- What flushing a stripe and unmapping a region in it made, by its history.
use Rattle.std.proofs.Common.{◌≡◌, ◌⊎◌, inl, inr, ℕ, ◌<◌, ◌==◌, ◌&&◌, not, Bool, true, false, cond, List, [], ◌∷◌, ◌++◌, Option, Some, refl, sym, ap, subst, ◌∙◌}
use Rattle.std.specs.List.{filter, list_all, list_any}
use Rattle.std.proofs.lemmas.Bool.{cases_Bool, cases_eq, and_parts, and_from, or_parts, eqb-true, eq-eqb, ne_eqb}
use Rattle.std.proofs.lemmas.List.{map-append}
use Rattle.std.proofs.lemmas.List.Folds.{list_all-append}
use Rattle.histories.specs.Histories.{History, by}
use Rattle.page_base.specs.KeyOrder.{is_below}
use Rattle.page_base.specs.declared.keys.Key.{Key}
use Rattle.page_model.specs.declared.entry.Cause.{Cause}
use Rattle.page_model.specs.declared.entry.Cause.TheVariants.{Pressure, Flush, Unmap}
use Rattle.page_model.specs.declared.entry.Entry.{Entry}
use Rattle.page_model.specs.declared.entry.Entry.TheVariants.{Load, Save, Hint, StartWrite, Written, WriteFailed, Evicted, Dropped, Closing}
use Rattle.page_model.specs.Bits.{is_dirty}
use Rattle.page_model.specs.Closings.{is_closing}
use Rattle.page_model.specs.Core as plain
use Rattle.page_model.specs.Core.{Core}
use Rattle.page_model.specs.Entries.{key_of, is_access, lies_in, of_stripe}
use Rattle.page_model.specs.Residents.{is_resident}
use Rattle.page_model.specs.Setups.{regions}
use Rattle.page_model.specs.Stands.{StandsFor}
use Rattle.serial_pager.specs.declared.fault.PageFault.{PageFault}
use Rattle.serial_pager.specs.Unmappings as pager
use Rattle.serial_pager.specs.Unmappings.{leaves_region, drops, is_unmap}
use Rattle.serial_pager.specs.Writings.{flushes, is_flush, is_failed_write, WritesAll, WritesUpTo}
use Rattle.workload_text.specs.Line.{Line, flush_line, unmap_line}
use Rattle.script_run.specs.InsideRunning.{StripesAgree}
use Rattle.script_run.specs.LineEntries.{loads_from, stores_to, may_make, writes_for, evicts_for, MakesInOrder, FlushesBy, FlushesUpTo, begins_by, ClearsBy, UnmapsBy, FailsToUnmapBy}

-- ---- what a line that makes no access may make

abbrev pub IsQuietLine : ℕ → Line → Type 0
IsQuietLine z l = (k : Key) → (loads_from z l k ≡ false) × (stores_to z l k ≡ false)

pub quiet_made : (z : ℕ) (l : Line) → IsQuietLine z l → (es : List Entry) → list_all (may_make z l) es ≡ true → filter is_access es ≡ []
quiet_made z l quiet [] all = refl
quiet_made z l quiet (e ∷ es) all =
    let both = and_parts (may_make z l e) (list_all (may_make z l) es) all in
    ap (λ b. cond b (e ∷ filter is_access es) (filter is_access es)) (one e both.0) ∙ quiet_made z l quiet es both.1
  where
    one : (e : Entry) → may_make z l e ≡ true → is_access e ≡ false
    one (Load k place bytes) m = absurd (let no : true ≡ false = sym m ∙ (quiet k).0 in cc)
    one (Save k place bytes) m = absurd (let no : true ≡ false = sym m ∙ (quiet k).1 in cc)
    one (Hint k answer) m = absurd (cc)
    one e m = refl

-- such a line made nothing but entries that it may make
pub order_quiet : (stripe : Key → ℕ) (z : ℕ) (l : Line) → IsQuietLine z l → (m : ℕ → List Entry) → ((s : ℕ) → list_all (may_make z l) (m s) ≡ true) → MakesInOrder stripe (may_make z l) [] [] m
order_quiet stripe z l quiet m all = record {
  served = m;
  made_are = λ s. refl;
  in_order = λ s. quiet_made z l quiet (m s) (all s);
  serve = all;
}

-- the entries of each stripe, in one of them without the last
abbrev served_by : (stripe : Key → ℕ) (m : ℕ → List Entry) → Key → (rest : List Entry) → ℕ → List Entry
served_by stripe m k rest s = cond (stripe k == s) rest (m s)

-- or, in one stripe, such entries and then a failure
pub order_fails : (stripe : Key → ℕ) (z : ℕ) (l : Line) → IsQuietLine z l → (m : ℕ → List Entry) (k : Key) (e : Entry) (rest : List Entry) → key_of e ≡ Some k → m (stripe k) ≡ e ∷ rest → list_all (may_make z l) rest ≡ true
    → ((s : ℕ) → (s ≡ stripe k → ⊥) → list_all (may_make z l) (m s) ≡ true) → MakesInOrder stripe (may_make z l) [] (e ∷ []) m
order_fails stripe z l quiet m k e rest its at all others = record {
  served = served_by stripe m k rest;
  made_are = λ s. made s (cases_eq s (stripe k));
  in_order = λ s. quiet_made z l quiet (served_by stripe m k rest s) (serve s (cases_eq s (stripe k)));
  serve = λ s. serve s (cases_eq s (stripe k));
}
  where
    here : (s : ℕ) → s ≡ stripe k → (stripe k == s) ≡ true
    here s is = eq-eqb (stripe k) s (sym is)

    apart : (s : ℕ) → (s ≡ stripe k → ⊥) → (stripe k == s) ≡ false
    apart s other = ne_eqb (stripe k) s (λ e. other (sym e))

    mine : (s : ℕ) → of_stripe stripe s (e ∷ []) ≡ cond (stripe k == s) (e ∷ []) []
    mine s = ap (λ (o : Option Key). cond (lies_in stripe s o) (e ∷ []) []) its

    made : (s : ℕ) → (s ≡ stripe k) ⊎ (s ≡ stripe k → ⊥) → m s ≡ of_stripe stripe s (e ∷ []) ++ served_by stripe m k rest s
    made s (inl is) = ap m is ∙ at ∙ sym (ap (λ (xs : List Entry). xs ++ served_by stripe m k rest s) (mine s) ∙ ap (λ b. cond b (e ∷ []) [] ++ cond b rest (m s)) (here s is))
    made s (inr other) = sym (ap (λ (xs : List Entry). xs ++ served_by stripe m k rest s) (mine s) ∙ ap (λ b. cond b (e ∷ []) [] ++ cond b rest (m s)) (apart s other))

    serve : (s : ℕ) → (s ≡ stripe k) ⊎ (s ≡ stripe k → ⊥) → list_all (may_make z l) (served_by stripe m k rest s) ≡ true
    serve s (inl is) = ap (λ b. list_all (may_make z l) (cond b rest (m s))) (here s is) ∙ all
    serve s (inr other) = ap (λ b. list_all (may_make z l) (cond b rest (m s))) (apart s other) ∙ others s other

pub flush_quiet : (z : ℕ) → IsQuietLine z flush_line
flush_quiet z k = (refl, refl)

pub unmap_quiet : (z r : ℕ) → IsQuietLine z (unmap_line r)
unmap_quiet z r k = (refl, refl)

pub all_weaker : (f g : Entry → Bool) → ((e : Entry) → f e ≡ true → g e ≡ true) → (es : List Entry) → list_all f es ≡ true → list_all g es ≡ true
all_weaker f g weak [] all = refl
all_weaker f g weak (e ∷ es) all =
    let both = and_parts (f e) (list_all f es) all in
    and_from (g e) (list_all g es) (weak e both.0) (all_weaker f g weak es both.1)

-- ---- what a flush may make

pub flush_may : (z : ℕ) (es : List Entry) → list_all flushes es ≡ true → list_any is_failed_write es ≡ false → list_all (may_make z flush_line) es ≡ true
flush_may z [] pass none = refl
flush_may z (e ∷ es) pass none =
    let both = and_parts (flushes e) (list_all flushes es) pass in
    let calm = or_parts (is_failed_write e) (list_any is_failed_write es) none in
    and_from (may_make z flush_line e) (list_all (may_make z flush_line) es) (one e both.0 calm.0) (flush_may z es both.1 calm.1)
  where
    by_cause : (why : Cause) (q : ℕ) → is_flush why ≡ true → writes_for flush_line why q ≡ true
    by_cause Flush q h = refl
    by_cause Pressure q h = absurd (cc)
    by_cause Unmap q h = absurd (cc)

    one : (e : Entry) → flushes e ≡ true → is_failed_write e ≡ false → may_make z flush_line e ≡ true
    one (StartWrite k why) f fine = by_cause why k.region f
    one (Written k at bytes) f fine = refl
    one (WriteFailed k n) f fine = absurd (cc)
    one e f fine = absurd (cc)

-- ---- what an unmapping may make

module _ (z r : ℕ) where
  same_region : (q : ℕ) → (q == r) ≡ true → (r == q) ≡ true
  same_region q e = eq-eqb r q (sym (eqb-true q r e))

  leaves_may : (e : Entry) → leaves_region r e ≡ true → may_make z (unmap_line r) e ≡ true
  leaves_may (StartWrite k why) h = let both = and_parts (k.region == r) (is_unmap why) h in by_cause why both.1 (same_region k.region both.0)
    where
      by_cause : (why : Cause) → is_unmap why ≡ true → (r == k.region) ≡ true → writes_for (unmap_line r) why k.region ≡ true
      by_cause Unmap h e = e
      by_cause Pressure h e = absurd (cc)
      by_cause Flush h e = absurd (cc)
  leaves_may (Written k at bytes) h = same_region k.region h
  leaves_may (Evicted k why) h = let both = and_parts (k.region == r) (is_unmap why) h in by_cause why both.1 (same_region k.region both.0)
    where
      by_cause : (why : Cause) → is_unmap why ≡ true → (r == k.region) ≡ true → evicts_for (unmap_line r) why k.region ≡ true
      by_cause Unmap h e = e
      by_cause Pressure h e = absurd (cc)
      by_cause Flush h e = absurd (cc)
  leaves_may e h = absurd (cc)

  drops_may : (e : Entry) → drops e ≡ true → may_make z (unmap_line r) e ≡ true
  drops_may (Dropped k) h = refl
  drops_may e h = absurd (cc)

  begins_may : (behind : List Entry) → list_all (may_make z (unmap_line r)) (begins_by behind r) ≡ true
  begins_may behind = one (is_closing (by 0 behind) r)
    where
      one : (b : Bool) → list_all (may_make z (unmap_line r)) (cond b [] (Closing r ∷ [])) ≡ true
      one true = refl
      one false = and_from (r == r) true (eq-eqb r r refl) refl

  clears_may : (behind es : List Entry) → ClearsBy r behind es → list_all (may_make z (unmap_line r)) es ≡ true
  clears_may behind es c =
      ap (list_all (may_make z (unmap_line r))) c.is
      ∙ list_all-append (may_make z (unmap_line r)) c.left (c.dropped ++ begins_by behind r)
      ∙ and_from _ _ (all_weaker (leaves_region r) (may_make z (unmap_line r)) leaves_may c.left c.leave)
      (list_all-append (may_make z (unmap_line r)) c.dropped (begins_by behind r)
      ∙ and_from _ _ (all_weaker drops (may_make z (unmap_line r)) drops_may c.dropped c.drop) (begins_may behind))

  pub unmaps_may : (behind es : List Entry) → UnmapsBy r behind es → list_all (may_make z (unmap_line r)) es ≡ true
  unmaps_may behind es (inl x) = ap (list_all (may_make z (unmap_line r))) x.1
  unmaps_may behind es (inr x) =
      ap (list_all (may_make z (unmap_line r))) x.1.is
      ∙ and_from (r == r) (list_all (may_make z (unmap_line r)) x.1.before) (eq-eqb r r refl) (clears_may behind x.1.before x.1.clears)

  pub fails_may : (k : Key) (count : ℕ) (behind es : List Entry) → k.region ≡ r → (f : FailsToUnmapBy r k count behind es) → list_all (may_make z (unmap_line r)) (StartWrite k Unmap ∷ f.before) ≡ true
  fails_may k count behind es region f = and_from (r == k.region) (list_all (may_make z (unmap_line r)) f.before) (eq-eqb r k.region (sym region)) (clears_may behind f.before f.clears)

-- ---- by histories

module _ (agree : StripesAgree) where
  dirty_is : (h : History Entry) (c : Core) (k : Key) → StandsFor h c → plain.is_dirty c k ≡ is_dirty h k
  dirty_is h c k stands = elim (cases_Bool (is_resident h k)) [
    | inl there ↦ agree.pages.dirty h c k stands ∙ ap (λ b. b && is_dirty h k) there
    | inr gone ↦ agree.pages.dirty h c k stands ∙ ap (λ b. b && is_dirty h k) gone ∙ sym (agree.clean.absent c.setup h k stands.legal gone)
  ]

  -- a stripe stood for the entries `behind`, and stands for these on top of them
  module _ (behind es : List Entry) (old new : Core) (was : StandsFor (by 0 behind) old) (is : StandsFor (by 0 (es ++ behind)) new) where
    pub flushes_by : WritesAll old es new → FlushesBy behind es
    flushes_by w = record {
      rising = w.once.rising;
      each = λ k. w.once.each k ∙ dirty_is (by 0 behind) old k was;
      flushed =
          agree.flush.covered_is_flushed (by 0 (es ++ behind)) (by 0 behind)
          (λ k. agree.flush.not_dirty_is_covered (by 0 (es ++ behind)) (by 0 behind) new k (by 0 es, map-append (λ (e : Entry). (0, e)) es behind) is (w.clean k));
    }

    pub flushes_up_to : (f : PageFault) → WritesUpTo f old es new → FlushesUpTo f.key behind es
    flushes_up_to f w = record { rising = w.rising; each = λ k. w.each k ∙ ap (λ b. b && not (is_below f.key k)) (dirty_is (by 0 behind) old k was) }

    module _ (r : ℕ) (known : r < regions old.setup) where
      begins_is : pager.begin_closing old r ≡ begins_by behind r
      begins_is = ap (λ (b : Bool). cond b [] (Closing r ∷ [])) (agree.readers.regions (by 0 behind) old r was known).closing

      clears_by : (xs : List Entry) → pager.Clears r old xs → ClearsBy r behind xs
      clears_by xs c = record {
        left = c.left;
        dropped = c.dropped;
        is = c.is ∙ ap (λ (b : List Entry). c.left ++ (c.dropped ++ b)) begins_is;
        leave = c.leave;
        drop = c.drop;
      }

      pub unmaps_by : pager.Unmaps r old es new → UnmapsBy r behind es
      unmaps_by u = elim u.how [
        | inl x ↦ inl (sym (agree.readers.regions (by 0 behind) old r was known).unmapped ∙ x.0, x.1)
        | inr x ↦ inr (sym (agree.readers.regions (by 0 behind) old r was known).unmapped ∙ x.0, record { before = x.1.before; is = x.1.is; clears = clears_by x.1.before x.1.clears })
      ]

      pub fails_by : (f : PageFault) → new.setup ≡ old.setup → pager.FailsToUnmap r f old es new → FailsToUnmapBy r f.key f.faults behind es
      fails_by f same u = record {
        mapped = sym (agree.readers.regions (by 0 (es ++ behind)) new r is (subst (λ u. r < regions u) (sym same) known)).unmapped ∙ u.mapped;
        before = u.before;
        is = u.is;
        clears = clears_by u.before u.clears;
      }
