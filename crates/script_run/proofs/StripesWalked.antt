-- What a pager that was flushed, or unmapped a region, made: what its line makes.
use Rattle.std.proofs.Common.{◌≡◌, inl, inr, ℕ, ◌<◌, ◌≤◌, nat_lt, Bool, true, cond, List, [], ◌∷◌, ◌++◌, length, Option, Some, slice_get, refl, sym, ap, subst, ◌∙◌, arith}
use Rattle.std.specs.List.{list_all}
use Rattle.std.specs.Option.{option_map}
use Rattle.std.proofs.lemmas.Bool.{cases_lt, lt-ltb, ltb-true, cases_Bool}
use Rattle.std.proofs.lemmas.List.{map-append}
use Rattle.std.proofs.lemmas.Option.{slice_get_within}
use Rattle.histories.specs.Histories.{History, by}
use Rattle.page_model.specs.declared.entry.Cause.TheVariants.{Flush, Unmap}
use Rattle.page_model.specs.declared.entry.Entry.{Entry}
use Rattle.page_model.specs.declared.entry.Entry.TheVariants.{StartWrite, WriteFailed}
use Rattle.page_model.specs.Core.{Core}
use Rattle.page_model.specs.Setups.{regions}
use Rattle.page_model.specs.Stands.{StandsFor}
use Rattle.serial_pager.specs.declared.fault.PageFault.{PageFault}
use Rattle.serial_pager.specs.Goings.{Went, WentEach, EachDid, OneFailed}
use Rattle.serial_pager.specs.Pagers.{PagerSeen, WentAll, FlushFails, UnmapFails, UnmapsEach, core_in, is_gone}
use Rattle.serial_pager.specs.Seen.{StripeSeen}
use Rattle.serial_pager.specs.Unmappings as pager
use Rattle.serial_pager.specs.Writings.{WritesAll}
use Rattle.workload_text.specs.Grammar.{Region}
use Rattle.workload_text.specs.Line.{flush_line, unmap_line}
use Rattle.flat_lines.specs.Spreads.{Spread, stripe_in}
use Rattle.script_run.specs.InsideRunning.{IsShaped, StaysMade, StandsBy, StripesAgree, DidLines}
use Rattle.script_run.specs.LineEntries.{Makes, EachUpTo, FlushesBy, FlushesUpTo, UnmapsBy, FailsToUnmapBy, may_make}
use Rattle.script_run.specs.Replies.{ok, unmapped, fault}
use Rattle.script_run.proofs.FittedLanes.{there}
use Rattle.script_run.proofs.Makings.{all_none}
use Rattle.script_run.proofs.Shaped.{stripe_is, gone_is}
use Rattle.script_run.proofs.Walked.{order_quiet, order_fails, flush_quiet, unmap_quiet, flush_may, unmaps_may, fails_may, flushes_by, flushes_up_to, unmaps_by, fails_by}

module _ {J : Type 0} (has_noted : J → History Entry → Type 0) (agree : StripesAgree) (t : Spread) (gs : List Region) (p q : PagerSeen J) (shaped : IsShaped t gs p) (same : StaysMade p q) where
  -- what one stripe did to its data, by histories
  record At (older m : ℕ → List Entry) (How : Core → List Entry → Core → Type 0) (s : ℕ) : Type 0 where
    old : Core
    new : Core
    was : StandsFor (by 0 (older s)) old
    is : StandsFor (by 0 (m s ++ older s)) new
    setup : new.setup ≡ old.setup
    known : regions old.setup ≡ length gs
    how : How old (m s) new

  at : (older m : ℕ → List Entry) (How : Core → List Entry → Core → Type 0) (s : ℕ) → StandsBy p older → WentEach 0 has_noted m p.stripes q.stripes → s < t.stripes
      → ((x y : StripeSeen J) → slice_get p.stripes s ≡ Some x → slice_get q.stripes s ≡ Some y → How x.core (m s) y.core) → At older m How s
  at older m How s stands went below how =
      let x = there p.stripes s (omega (arith, below, shaped.stripes)) in
      let y = there q.stripes s (omega (arith, below, shaped.stripes, same.stripes)) in
      let w : Went 0 has_noted (m s) x.0 y.0 = went s x.0 y.0 x.1 y.1 in
      let was : StandsFor (by 0 (older s)) x.0.core = stands s x.0.core (ap core_in x.1) in
      record {
        old = x.0.core;
        new = y.0.core;
        was = was;
        is = subst (λ (h : History Entry). StandsFor h y.0.core) (sym (map-append (λ (e : Entry). (0, e)) (m s) (older s))) (w.stands (by 0 (older s)) was);
        setup = w.setup;
        known = shaped.known s x.0.core.setup (ap (λ (o : Option (StripeSeen J)). option_map (λ (c : Core). c.setup) (core_in o)) x.1);
        how = how x.0 y.0 x.1 y.1;
      }

  -- ---- every stripe

  -- what the stripes that are there made
  abbrev cut : (ℕ → List Entry) → ℕ → List Entry
  cut m s = cond (nat_lt s t.stripes) (m s) []

  cut_in : (m : ℕ → List Entry) (s : ℕ) → s < t.stripes → cut m s ≡ m s
  cut_in m s below = ap (λ b. cond b (m s) []) (lt-ltb s t.stripes below)

  cut_went : (m : ℕ → List Entry) → WentEach 0 has_noted m p.stripes q.stripes → WentAll 0 has_noted (cut m) p q
  cut_went m went s x y was is = subst (λ (es : List Entry). Went 0 has_noted es x y) (sym (cut_in m s (omega (arith, slice_get_within p.stripes s x was, shaped.stripes)))) (went s x y was is)

  cut_all : (f : Entry → Bool) (m : ℕ → List Entry) → ((s : ℕ) → s < t.stripes → list_all f (m s) ≡ true) → (s : ℕ) → list_all f (cut m s) ≡ true
  cut_all f m each s = elim (cases_Bool (nat_lt s t.stripes)) [
    | inl y ↦ ap (λ b. list_all f (cond b (m s) [])) y ∙ each s (ltb-true s t.stripes y)
    | inr n ↦ ap (λ b. list_all f (cond b (m s) [])) n
  ]

  pub flush_did : EachDid 0 has_noted WritesAll p.stripes q.stripes → DidLines has_noted t (flush_line ∷ []) (ok ∷ []) p q
  flush_did each = record { same = same; made = cut each.made; went = cut_went each.made each.went; make = λ older stands. (cut each.made, makes older stands, λ s. refl) }
    where
      one : (older : ℕ → List Entry) → StandsBy p older → (s : ℕ) → s < t.stripes → At older each.made WritesAll s
      one older stands s below = at older each.made WritesAll s stands each.went below (each.how s)

      makes : (older : ℕ → List Entry) → StandsBy p older → Makes t flush_line ok older (cut each.made)
      makes older stands = record {
        accesses = [];
        failure = [];
        accesses_are = refl;
        failure_is = refl;
        in_order = order_quiet (stripe_in t) t.page_size flush_line (flush_quiet t.page_size) (cut each.made)
            (cut_all (may_make t.page_size flush_line) each.made (λ s below. let a = one older stands s below in flush_may t.page_size (each.made s) a.how.pass a.how.none));
        goes = λ s below.
            let a = one older stands s below in
            subst (FlushesBy (older s)) (sym (cut_in each.made s below)) (flushes_by agree (older s) (each.made s) a.old a.new a.was a.is a.how);
      }

  pub unmap_did : (r : ℕ) → r < length gs → UnmapsEach 0 has_noted r p q → DidLines has_noted t (unmap_line r ∷ []) (ok ∷ []) p q
  unmap_did r known u = record { same = same; made = cut u.each.made; went = cut_went u.each.made u.each.went; make = λ older stands. (cut u.each.made, makes older stands, λ s. refl) }
    where
      one : (older : ℕ → List Entry) → StandsBy p older → (s : ℕ) → s < t.stripes → UnmapsBy r (older s) (u.each.made s)
      one older stands s below =
          let a = at older u.each.made (pager.Unmaps r) s stands u.each.went below (u.each.how s) in
          unmaps_by agree (older s) (u.each.made s) a.old a.new a.was a.is r (subst (λ n. r < n) (sym a.known) known) a.how

      makes : (older : ℕ → List Entry) → StandsBy p older → Makes t (unmap_line r) ok older (cut u.each.made)
      makes older stands = record {
        accesses = [];
        failure = [];
        accesses_are = refl;
        failure_is = refl;
        in_order = order_quiet (stripe_in t) t.page_size (unmap_line r) (unmap_quiet t.page_size r) (cut u.each.made)
            (cut_all (may_make t.page_size (unmap_line r)) u.each.made (λ s below. unmaps_may t.page_size r (older s) (u.each.made s) (one older stands s below)));
        goes = (
          sym (gone_is t gs p shaped agree older stands r known) ∙ u.mapped,
          λ s below. subst (UnmapsBy r (older s)) (sym (cut_in u.each.made s below)) (one older stands s below),
        );
      }

  -- the region was unmapped already
  pub unmapped_did : (r : ℕ) → r < length gs → is_gone p r ≡ true → q.stripes ≡ p.stripes → DidLines has_noted t (unmap_line r ∷ []) (unmapped 0 ∷ []) p q
  unmapped_did r known gone stripes = record {
    same = same;
    made = λ s. [];
    went = λ s x y was is. all_none has_noted p s x y was (ap (λ (xs : List (StripeSeen J)). slice_get xs s) (sym stripes) ∙ is);
    make = λ older stands. (
      λ s. [],
      record {
        accesses = [];
        failure = [];
        accesses_are = refl;
        failure_is = refl;
        in_order = order_quiet (stripe_in t) t.page_size (unmap_line r) (unmap_quiet t.page_size r) (λ s. []) (λ s. refl);
        goes = (sym (gone_is t gs p shaped agree older stands r known) ∙ gone, λ s. refl);
      },
      λ s. refl,
    );
  }

  -- ---- up to one stripe

  -- a stripe below one that is there
  module _ {How Fails : Core → List Entry → Core → Type 0} (o : OneFailed 0 has_noted How Fails p.stripes q.stripes) (older : ℕ → List Entry) (stands : StandsBy p older) where
    there_ : o.stripe < t.stripes
    there_ = omega (arith, o.below, shaped.stripes)

    at_below : (s : ℕ) → s < o.stripe → At older o.made How s
    at_below s below = at older o.made How s stands o.went (omega (arith, below, there_)) (λ x y. o.before s x y below)

    at_fails : At older o.made Fails o.stripe
    at_fails = at older o.made Fails o.stripe stands o.went there_ o.fails

    others : (f : Entry → Bool) → ((s : ℕ) → s < o.stripe → list_all f (o.made s) ≡ true) → (s : ℕ) → (s ≡ o.stripe → ⊥) → list_all f (o.made s) ≡ true
    others f each s other = elim (cases_lt s o.stripe) [
      | inl below ↦ each s below
      | inr past ↦ ap (list_all f) (o.above s (above s past other))
    ]
      where
        above : (s : ℕ) → o.stripe ≤ s → (s ≡ o.stripe → ⊥) → o.stripe < s
        above s past other = omega (arith, past, other)

  pub flush_failed : (f : PageFault) → FlushFails 0 has_noted p q f → DidLines has_noted t (flush_line ∷ []) (fault f.key f.faults 0 ∷ []) p q
  flush_failed f x = record { same = same; made = x.failed.made; went = x.failed.went; make = λ older stands. (x.failed.made, makes older stands, λ s. refl) }
    where
      stripe_ : stripe_in t f.key ≡ x.failed.stripe
      stripe_ = sym (stripe_is t gs p shaped f.key) ∙ x.at

      makes : (older : ℕ → List Entry) → StandsBy p older → Makes t flush_line (fault f.key f.faults 0) older x.failed.made
      makes older stands =
          let a = at_fails x.failed older stands in
          record {
            accesses = [];
            failure = WriteFailed f.key f.faults ∷ [];
            accesses_are = refl;
            failure_is = refl;
            in_order = order_fails (stripe_in t) t.page_size flush_line (flush_quiet t.page_size) x.failed.made f.key (WriteFailed f.key f.faults) (StartWrite f.key Flush ∷ a.how.before) refl (ap x.failed.made stripe_ ∙ a.how.is)
                (flush_may t.page_size a.how.before a.how.pass a.how.none)
                (λ s other. others x.failed older stands (may_make t.page_size flush_line) (λ n below. let b = at_below x.failed older stands n below in flush_may t.page_size (x.failed.made n) b.how.pass b.how.none) s (λ e. other (e ∙ sym stripe_)));
            goes = subst (λ n. EachUpTo n FlushesBy (FlushesUpTo f.key) older x.failed.made) (sym stripe_) (record {
              before = λ s below. let b = at_below x.failed older stands s below in flushes_by agree (older s) (x.failed.made s) b.old b.new b.was b.is b.how;
              fails = flushes_up_to agree (older x.failed.stripe) (x.failed.made x.failed.stripe) a.old a.new a.was a.is f a.how;
              above = x.failed.above;
            });
          }

  pub unmap_failed : (r : ℕ) → r < length gs → (f : PageFault) → UnmapFails 0 has_noted r p q f → DidLines has_noted t (unmap_line r ∷ []) (fault f.key f.faults 0 ∷ []) p q
  unmap_failed r known f x = record { same = same; made = x.failed.made; went = x.failed.went; make = λ older stands. (x.failed.made, makes older stands, λ s. refl) }
    where
      stripe_ : stripe_in t f.key ≡ x.failed.stripe
      stripe_ = sym (stripe_is t gs p shaped f.key) ∙ x.at

      below_ : (older : ℕ → List Entry) (stands : StandsBy p older) (s : ℕ) → s < x.failed.stripe → UnmapsBy r (older s) (x.failed.made s)
      below_ older stands s below =
          let b = at_below x.failed older stands s below in
          unmaps_by agree (older s) (x.failed.made s) b.old b.new b.was b.is r (subst (λ n. r < n) (sym b.known) known) b.how

      fails_ : (older : ℕ → List Entry) (stands : StandsBy p older) → FailsToUnmapBy r f.key f.faults (older x.failed.stripe) (x.failed.made x.failed.stripe)
      fails_ older stands =
          let a = at_fails x.failed older stands in
          fails_by agree (older x.failed.stripe) (x.failed.made x.failed.stripe) a.old a.new a.was a.is r (subst (λ n. r < n) (sym a.known) known) f a.setup a.how

      makes : (older : ℕ → List Entry) → StandsBy p older → Makes t (unmap_line r) (fault f.key f.faults 0) older x.failed.made
      makes older stands =
          let a = at_fails x.failed older stands in
          let y = fails_ older stands in
          record {
            accesses = [];
            failure = WriteFailed f.key f.faults ∷ [];
            accesses_are = refl;
            failure_is = refl;
            in_order = order_fails (stripe_in t) t.page_size (unmap_line r) (unmap_quiet t.page_size r) x.failed.made f.key (WriteFailed f.key f.faults) (StartWrite f.key Unmap ∷ y.before) refl (ap x.failed.made stripe_ ∙ y.is)
                (fails_may t.page_size r f.key f.faults (older x.failed.stripe) (x.failed.made x.failed.stripe) a.how.region y)
                (λ s other. others x.failed older stands (may_make t.page_size (unmap_line r)) (λ n below. unmaps_may t.page_size r (older n) (x.failed.made n) (below_ older stands n below)) s (λ e. other (e ∙ sym stripe_)));
            goes = record {
              mapped = sym (gone_is t gs p shaped agree older stands r known) ∙ x.mapped;
              region = a.how.region;
              stripes = subst (λ n. EachUpTo n (UnmapsBy r) (FailsToUnmapBy r f.key f.faults) older x.failed.made) (sym stripe_) (record {
                before = below_ older stands;
                fails = y;
                above = x.failed.above;
              });
            };
          }
