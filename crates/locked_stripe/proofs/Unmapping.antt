-- An unmapping of a region in a stripe, hold by hold and turn by turn.
use Rattle.std.proofs.Common.{◌≡◌, ℕ, suc, ◌+◌, ◌<◌, ◌≤◌, ◌&&◌, ◌||◌, ◌==◌, Bool, true, false, List, [], ◌∷◌, ◌++◌, length, length-append, append_assoc, append-nil, Option, Some, None, is_none, option_map, ◌⊎◌, inl, inr, refl, sym, subst, ap, ◌∙◌, arith, cond}
use Rattle.std.specs.List.{list_all}
use Rattle.std.proofs.lemmas.Bool.{and_from, or_left, eq-eqb}
use Rattle.std.proofs.lemmas.List.Folds.{list_all-append}
use Rattle.histories.specs.Histories.{History, by, GoesOn, Grew, Alone, IsNew}
use Rattle.page_base.specs.KeyOrder.{is_below, is_past}
use Rattle.page_base.specs.Laws.{KeysAreOrdered}
use Rattle.page_base.specs.declared.keys.Key.{Key}
use Rattle.page_model.specs.declared.entry.Cause.{Cause}
use Rattle.page_model.specs.declared.entry.Cause.TheVariants.{Flush, Unmap}
use Rattle.page_model.specs.declared.entry.Entry.{Entry}
use Rattle.page_model.specs.declared.entry.Entry.TheVariants as entry
use Rattle.page_model.specs.Closings.{is_quiet, is_unmapped}
use Rattle.page_model.specs.Core as core
use Rattle.page_model.specs.Core.{Core}
use Rattle.page_model.specs.Flushed.{IsFlushed, is_page_covered}
use Rattle.page_model.specs.InFlight.{InFlight, in_flight, is_write_of}
use Rattle.page_model.specs.Laws.{ClosingGoesAhead}
use Rattle.page_model.specs.declared.seen.Next.TheVariants as serve
use Rattle.page_model.specs.Readers.{PageReads, RegionReads, StripeReads, picked}
use Rattle.page_model.specs.Setups.{Setup, has_page}
use Rattle.page_model.specs.Stands.{StandsFor}
use Rattle.page_model.specs.Trips.{Trip}
use Rattle.turn_lock.specs.Seen.{PassSeen}
use Rattle.locked_stripe.specs.Calls.{AllHome}
use Rattle.locked_stripe.specs.Holds.{PassGrew}
use Rattle.locked_stripe.specs.InsideHolds.{OneHold}
use Rattle.locked_stripe.specs.InsideLaws.{PagerLaws}
use Rattle.locked_stripe.specs.declared.answers.FlushTurn.TheVariants as turn
use Rattle.locked_stripe.specs.declared.answers.UnmapStep.{UnmapStep}
use Rattle.locked_stripe.specs.declared.answers.UnmapStep.TheVariants as step
use Rattle.locked_stripe.specs.declared.answers.UnmapTurn.TheVariants as unmap
use Rattle.locked_stripe.specs.InsideWalks.{BeginsUnmap, CoversRest, CoversUpTo, FlushTurns, IsCovered, IsNextTrip, UnmapGoes, UnmapSteps, UnmapTurns, UnmapsSoFar, is_step, stepped}
use Rattle.locked_stripe.specs.Walks.{FlushWent, FoundMapped, UnmapFailed, UnmapWent, WalkFailed, WalkWent, flushes, is_for_unmap, is_of_unmapping}
use Rattle.locked_stripe.specs.WholeTrips.{trips_are_whole}
use Rattle.locked_stripe.proofs.Goes.{alone_parts, grew_both, grew_once, grew_none, goes_grown, goes_past, goes_through}
use Rattle.locked_stripe.proofs.Walking.{both_own, failed_both, failed_homes, failed_new, failed_whole, none_own, once_own, walk_both, walk_goes, walk_none, walk_once, walk_is, walk_twice, written_homes, written_whole}

-- ---- what a hold finds

-- a closing region with its lane home, no page and no fault to drop is quiet
pub is_now_quiet : ClosingGoesAhead → (h : History Entry) (c : Core) (r : ℕ) → RegionReads h c r → StripeReads h c → core.is_closing c r ≡ true → core.is_home c r ≡ true → core.oldest_of c r ≡ None
    → ((k : Key) → core.next c ≡ serve.Drop k → ⊥) → core.is_quiet c r ≡ true
is_now_quiet law h c r reads all closing home none undropped = at (is_quiet h r) refl
  where
    at : (b : Bool) → is_quiet h r ≡ b → core.is_quiet c r ≡ true
    at true e = reads.quiet ∙ e
    at false e = elim (law c.setup h r (sym reads.closing ∙ closing) (sym reads.home ∙ home) e) [
      | inl page ↦ absurd (let no : None ≡ Some (picked h page.0) = sym none ∙ (reads.oldest_of ∙ ap (option_map (picked h)) page.1) in cc)
      | inr fault ↦ absurd (undropped fault.0 (all.next ∙ fault.1))
    ]

-- where a lane is home, none of its pages is being written
pub home_not_writing : (h : History Entry) (c : Core) (k : Key) → PageReads h c k → RegionReads h c k.region → core.is_home c k.region ≡ true → core.is_writing c k ≡ false
home_not_writing h c k page region home = page.writing ∙ at (in_flight h k.region) (sym region.home ∙ home)
  where
    at : (t : Option InFlight) → is_none t ≡ true → is_write_of t k ≡ false
    at None f = refl
    at (Some t) f = absurd cc

-- ---- an unmapping

step_kinds : (r : ℕ) (es : List Entry) → is_step r es ≡ true → list_all (is_of_unmapping r) es ≡ true
step_kinds r [] e = refl
step_kinds r (entry.Closing q ∷ []) e = and_from (q == r) true e refl
step_kinds r (entry.Dropped k ∷ []) e = refl
step_kinds r (entry.Evicted k cause ∷ []) e = and_from (k.region == r && is_for_unmap cause) true e refl
step_kinds r (entry.Load k place bytes ∷ es) e = absurd cc
step_kinds r (entry.Save k place bytes ∷ es) e = absurd cc
step_kinds r (entry.Raised k why ∷ es) e = absurd cc
step_kinds r (entry.StartRead k ∷ es) e = absurd cc
step_kinds r (entry.Filled k ∷ es) e = absurd cc
step_kinds r (entry.ReadFailed k n ∷ es) e = absurd cc
step_kinds r (entry.Opened k ∷ es) e = absurd cc
step_kinds r (entry.StartWrite k cause ∷ es) e = absurd cc
step_kinds r (entry.Written k at bytes ∷ es) e = absurd cc
step_kinds r (entry.WriteFailed k n ∷ es) e = absurd cc
step_kinds r (entry.Hint k answer ∷ es) e = absurd cc
step_kinds r (entry.Unmapped q ∷ es) e = absurd cc
step_kinds r (entry.Closing q ∷ e1 ∷ es) e = absurd cc
step_kinds r (entry.Dropped k ∷ e1 ∷ es) e = absurd cc
step_kinds r (entry.Evicted k cause ∷ e1 ∷ es) e = absurd cc

step_whole : (r : ℕ) (es : List Entry) → is_step r es ≡ true → trips_are_whole es ≡ true
step_whole r [] e = refl
step_whole r (entry.Closing q ∷ []) e = refl
step_whole r (entry.Dropped k ∷ []) e = refl
step_whole r (entry.Evicted k cause ∷ []) e = refl
step_whole r (entry.Load k place bytes ∷ es) e = absurd cc
step_whole r (entry.Save k place bytes ∷ es) e = absurd cc
step_whole r (entry.Raised k why ∷ es) e = absurd cc
step_whole r (entry.StartRead k ∷ es) e = absurd cc
step_whole r (entry.Filled k ∷ es) e = absurd cc
step_whole r (entry.ReadFailed k n ∷ es) e = absurd cc
step_whole r (entry.Opened k ∷ es) e = absurd cc
step_whole r (entry.StartWrite k cause ∷ es) e = absurd cc
step_whole r (entry.Written k at bytes ∷ es) e = absurd cc
step_whole r (entry.WriteFailed k n ∷ es) e = absurd cc
step_whole r (entry.Hint k answer ∷ es) e = absurd cc
step_whole r (entry.Unmapped q ∷ es) e = absurd cc
step_whole r (entry.Closing q ∷ e1 ∷ es) e = absurd cc
step_whole r (entry.Dropped k ∷ e1 ∷ es) e = absurd cc
step_whole r (entry.Evicted k cause ∷ e1 ∷ es) e = absurd cc

step_homes : (o r : ℕ) (es : List Entry) → is_step r es ≡ true → (h : History Entry) → AllHome h → AllHome (by o es ++ h)
step_homes o r [] e h a = a
step_homes o r (entry.Closing q ∷ []) e h a = a
step_homes o r (entry.Dropped k ∷ []) e h a = a
step_homes o r (entry.Evicted k cause ∷ []) e h a = a
step_homes o r (entry.Load k place bytes ∷ es) e h a = absurd cc
step_homes o r (entry.Save k place bytes ∷ es) e h a = absurd cc
step_homes o r (entry.Raised k why ∷ es) e h a = absurd cc
step_homes o r (entry.StartRead k ∷ es) e h a = absurd cc
step_homes o r (entry.Filled k ∷ es) e h a = absurd cc
step_homes o r (entry.ReadFailed k n ∷ es) e h a = absurd cc
step_homes o r (entry.Opened k ∷ es) e h a = absurd cc
step_homes o r (entry.StartWrite k cause ∷ es) e h a = absurd cc
step_homes o r (entry.Written k at bytes ∷ es) e h a = absurd cc
step_homes o r (entry.WriteFailed k n ∷ es) e h a = absurd cc
step_homes o r (entry.Hint k answer ∷ es) e h a = absurd cc
step_homes o r (entry.Unmapped q ∷ es) e h a = absurd cc
step_homes o r (entry.Closing q ∷ e1 ∷ es) e h a = absurd cc
step_homes o r (entry.Dropped k ∷ e1 ∷ es) e h a = absurd cc
step_homes o r (entry.Evicted k cause ∷ e1 ∷ es) e h a = absurd cc

kind : (r : ℕ) (k : Key) → k.region ≡ r → (k.region == r) ≡ true
kind r k e = ap (λ x. x == r) e ∙ eq-eqb r r refl

module _ {T : Type 0} (laws : PagerLaws) where
  found_here : (r : ℕ) (old new : PassSeen T Entry) (h : History Entry) → GoesOn old.seen h → GoesOn h new.seen → is_unmapped h r ≡ false → FoundMapped r old new
  found_here r old new h past onward mapped = record { first = h; past = past; onward = onward; mapped = mapped }

  pub found_since : (r : ℕ) (old now new : PassSeen T Entry) → GoesOn old.seen now.seen → FoundMapped r now new → FoundMapped r old new
  found_since r old now new goes f = record { first = f.first; past = laws.order.trans old.seen now.seen f.first goes f.past; onward = f.onward; mapped = f.mapped }

  pub found_until : (r : ℕ) (old now new : PassSeen T Entry) → FoundMapped r old now → GoesOn now.seen new.seen → FoundMapped r old new
  found_until r old now new f goes = record { first = f.first; past = f.past; onward = laws.order.trans f.first now.seen new.seen f.onward goes; mapped = f.mapped }

  -- the region was unmapped before
  turn_gone : (u : Setup) (r : ℕ) (old new : PassSeen T Entry) (h : History Entry) → OneHold old new h [] → is_unmapped h r ≡ true → UnmapTurns u r old new unmap.Gone
  turn_gone u r old new h w e = (
    walk_once laws (is_of_unmapping r) [] 1 old new h w refl refl (λ g a. a) (λ x. omega arith),
    once_own laws (is_of_unmapping r) [] 1 old new h w refl refl (λ g a. a) (λ x. omega arith),
    subst (λ (z : History Entry). is_unmapped z r ≡ true) (sym (ap (λ (p : PassSeen T Entry). p.seen) w.after)) e,
  )

  -- it is unmapped now
  turn_done : (u : Setup) (r : ℕ) (old new : PassSeen T Entry) (h : History Entry) → OneHold old new h (entry.Unmapped r ∷ []) → is_unmapped h r ≡ false → UnmapTurns u r old new unmap.Done
  turn_done u r old new h w e = (
    walk_once laws (is_of_unmapping r) (entry.Unmapped r ∷ []) 0 old new h w (and_from (r == r) true (eq-eqb r r refl) refl) refl (λ g a. a) (λ x. omega arith),
    found_here r old new h (w.others.later, w.others.is) (goes_past laws old new h (entry.Unmapped r ∷ []) w) e,
    subst (λ (z : History Entry). is_unmapped z r ≡ true) (sym (ap (λ (p : PassSeen T Entry). p.seen) w.after)) (or_left (r == r) (is_unmapped h r) (eq-eqb r r refl)),
  )

  -- a hold went ahead, or waits
  turn_went : (u : Setup) (r : ℕ) (old new : PassSeen T Entry) → UnmapGoes r old new → UnmapTurns u r old new unmap.Went
  turn_went u r old new w = (
    walk_once laws (is_of_unmapping r) w.own 0 old new w.found w.held (step_kinds r w.own w.step) (step_whole r w.own w.step) (step_homes old.number r w.own w.step) (λ a. let some = w.some a in omega (arith, some)),
    found_here r old new w.found (w.held.others.later, w.held.others.is) (goes_past laws old new w.found w.own w.held) w.mapped,
  )

  pub turn_stepped : (u : Setup) (r : ℕ) (s : UnmapStep) (old new : PassSeen T Entry) → UnmapSteps r old new s → UnmapTurns u r old new (stepped s)
  turn_stepped u r step.Gone old new w = turn_gone u r old new w.0 w.1 w.2
  turn_stepped u r step.Done old new w = turn_done u r old new w.0 w.1 w.2
  turn_stepped u r step.Went old new w = turn_went u r old new w

  start_found : (u : Setup) (r : ℕ) (k : Key) (f : Entry) (old mid new : PassSeen T Entry) (g : History Entry) → BeginsUnmap u r old mid k → OneHold mid new g (f ∷ []) → FoundMapped r old new
  start_found u r k f old mid new g a b =
      found_here r old new a.found (a.held.others.later, a.held.others.is) (laws.order.trans a.found mid.seen new.seen (goes_past laws old mid a.found (entry.StartWrite k Unmap ∷ []) a.held) (goes_through laws mid new g (f ∷ []) b)) a.mapped

  -- a page was written
  pub turn_written : (u : Setup) (r : ℕ) (k : Key) (at : ℕ) (bytes : List ℕ) (old mid new : PassSeen T Entry) (g : History Entry) → BeginsUnmap u r old mid k → OneHold mid new g (entry.Written k at bytes ∷ []) → UnmapTurns u r old new unmap.Went
  turn_written u r k at bytes old mid new g a b = (
    walk_twice laws (is_of_unmapping r) [] (entry.Written k at bytes ∷ entry.StartWrite k Unmap ∷ []) (entry.StartWrite k Unmap) (entry.Written k at bytes) old mid new a.found g a.held b refl
        (and_from (k.region == r) (list_all (is_of_unmapping r) (entry.StartWrite k Unmap ∷ [])) (kind r k a.region) (and_from (k.region == r && true) true (and_from (k.region == r) true (kind r k a.region) refl) refl))
        (written_whole k Unmap at bytes laws) (written_homes old.number at k Unmap bytes),
    start_found u r k (entry.Written k at bytes) old mid new g a b,
  )

  -- its write failed
  pub turn_failed : (u : Setup) (r : ℕ) (k : Key) (n : ℕ) (old mid new : PassSeen T Entry) (g : History Entry) → BeginsUnmap u r old mid k → OneHold mid new g (entry.WriteFailed k n ∷ []) → UnmapTurns u r old new (unmap.Failed k n)
  turn_failed u r k n old mid new g a b = (
    failed_new laws (is_of_unmapping r) u k n old new
        (walk_twice laws (is_of_unmapping r) (entry.WriteFailed k n ∷ []) (entry.StartWrite k Unmap ∷ []) (entry.StartWrite k Unmap) (entry.WriteFailed k n) old mid new a.found g a.held b refl
        (and_from (k.region == r && true) true (and_from (k.region == r) true (kind r k a.region) refl) refl)
        (failed_whole k Unmap n laws) (failed_homes old.number n k Unmap))
        a.page,
    start_found u r k (entry.WriteFailed k n) old mid new g a b,
    a.region,
  )

  -- ---- turns of an unmapping

  pub unmaps_none : (r : ℕ) (p : PassSeen T Entry) → p.inside ≡ false → UnmapsSoFar r true p p
  unmaps_none r p out = record { went = walk_none laws (is_of_unmapping r) p out; began = none_own laws (is_of_unmapping r) p out }

  pub unmaps_more : (u : Setup) (r : ℕ) (fresh : Bool) (old now new : PassSeen T Entry) → UnmapsSoFar r fresh old now → UnmapTurns u r now new unmap.Went → UnmapsSoFar r false old new
  unmaps_more u r fresh old now new s t = record {
    went = walk_both laws (is_of_unmapping r) [] 0 old now new s.went t.0;
    began = found_since r old now new (walk_goes laws (is_of_unmapping r) [] 0 old now s.went) t.1;
  }

  pub unmaps_gone : (u : Setup) (r : ℕ) (fresh : Bool) (old now new : PassSeen T Entry) → UnmapsSoFar r fresh old now → UnmapTurns u r now new unmap.Gone → UnmapWent r fresh old new
  unmaps_gone u r true old now new s t = record {
    went = walk_both laws (is_of_unmapping r) [] 1 old now new s.went t.0;
    unmapped = t.2;
    began = both_own laws (is_of_unmapping r) [] 1 old now new s.went t.0 ∙ (ap (λ (x : List Entry). x ++ s.went.own) t.1 ∙ s.began);
  }
  unmaps_gone u r false old now new s t = record {
    went = walk_both laws (is_of_unmapping r) [] 1 old now new s.went t.0;
    unmapped = t.2;
    began = found_until r old now new s.began (walk_goes laws (is_of_unmapping r) [] 1 now new t.0);
  }

  -- a walk may count one hold more than it made
  walk_more : (may : Entry → Bool) (old new : PassSeen T Entry) → WalkWent may [] 0 old new → WalkWent may [] 1 old new
  walk_more may old new w = record {
    times = w.times;
    own = w.own;
    well = w.well;
    grew = w.grew;
    own_are = w.own_are;
    kinds = w.kinds;
    whole = w.whole;
    bound = λ a home. let b = w.bound a home in let few = b.0 in (omega (arith, few), b.1);
  }

  pub unmaps_done : (u : Setup) (r : ℕ) (fresh : Bool) (old now new : PassSeen T Entry) → UnmapsSoFar r fresh old now → UnmapTurns u r now new unmap.Done → UnmapWent r false old new
  unmaps_done u r fresh old now new s t = record {
    went = walk_more (is_of_unmapping r) old new (walk_both laws (is_of_unmapping r) [] 0 old now new s.went t.0);
    unmapped = t.2;
    began = found_since r old now new (walk_goes laws (is_of_unmapping r) [] 0 old now s.went) t.1;
  }

  pub unmaps_failed : (u : Setup) (r : ℕ) (fresh : Bool) (k : Key) (n : ℕ) (old now new : PassSeen T Entry) → UnmapsSoFar r fresh old now → UnmapTurns u r now new (unmap.Failed k n) → UnmapFailed r u k n old new
  unmaps_failed u r fresh k n old now new s t = record {
    failed = failed_both laws (is_of_unmapping r) u k n old now new s.went t.0;
    region = t.2;
    found = found_since r old now new (walk_goes laws (is_of_unmapping r) [] 0 old now s.went) t.1;
  }
