-- One piece more, or the piece that wasn't done.
use Rattle.std.proofs.Common.{◌≡◌, ℕ, ◌+◌, ◌==◌, Bool, true, false, cond, List, [], ◌∷◌, ◌++◌, length, filter, slice_set, Option, Some, None, append-nil, length-append, arith, refl, sym, subst, ap, ◌∙◌}
use Rattle.std.specs.List.{list_all, slice_get}
use Rattle.page_base.specs.declared.keys.Key.{Key}
use Rattle.page_base.specs.declared.keys.Piece.{Piece}
use Rattle.page_base.specs.declared.keys.Why.{Why}
use Rattle.page_model.specs.declared.entry.Entry.{Entry}
use Rattle.page_model.specs.Entries.{is_access, key_of}
use Rattle.page_model.specs.Pieces.{AreBefore, accesses_by}
use Rattle.turn_lock.specs.Seen.{PassSeen}
use Rattle.locked_stripe.specs.declared.stripe_box.StripeBox.{StripeBox}
use Rattle.locked_stripe.specs.declared.answers.Access.{Access}
use Rattle.locked_stripe.specs.declared.answers.Access.TheVariants as access
use Rattle.locked_stripe.specs.Calls.{Because, Blames, PieceWent, PieceStopped, is_try}
use Rattle.locked_stripe.specs.WholeTrips.{trips_are_whole}
use Rattle.umap_pager.specs.InsideLaws.{WentLaws}
use Rattle.umap_pager.specs.InsideParts.{PieceDone}
use Rattle.umap_pager.specs.Passes.{PassesSeen, InStripe}
use Rattle.umap_pager.specs.Ranges.{AccessesDone, AccessesStopped}
use Rattle.umap_pager.specs.Shared.{SharedPager}
use Rattle.umap_pager.specs.Went.{PassWent, WentOver, FewIn, HoldsStayFew, StaysFewIn, BecauseIn, is_part, at_hand, are_tries}
use Rattle.umap_pager.proofs.Added.{went_both, went_none, went_in, one_part, none_part, none_access, tries_more, tries_one, goes_grown, few_in_both, stay_in_both, few_in_none, stay_in_none, of_stripe_or}
use Rattle.umap_pager.proofs.Locks.{slice_set_same}

module _ {T : Type 0} (laws : WentLaws) where
  pub done_none : (stripe : Key → ℕ) (reasons : Why → Bool) (p : PassesSeen T) → ((s : ℕ) (pass : PassSeen T Entry) → slice_get p.passes s ≡ Some pass → pass.inside ≡ false) → AccessesDone stripe reasons p p []
  done_none stripe reasons p out = record {
    own = λ s. [];
    went = went_none laws stripe p out;
    tries = λ s k. refl;
    whole = λ s. refl;
    few = λ s. few_in_none laws (slice_get p.passes s);
  }

  -- why a piece ended, by all that was seen since the call began
  because_since : (k : Key) (why : Access) (a b c : Option (PassSeen T Entry)) (es fs : List Entry) → PassWent a b es → BecauseIn b c k why → BecauseIn a c k why
  because_since k why a None c es fs p b = absurd b
  because_since k why a (Some y) None es fs p b = absurd b
  because_since k why None (Some y) (Some z) es fs p b = absurd p
  because_since k why (Some x) (Some y) (Some z) es fs p b = at why b
    where
      num : y.number ≡ x.number
      num = ap (λ (q : PassSeen T Entry). q.number) p.1.after

      at : (r : Access) → Because y z k r → Because x z k r
      at access.OutOfRange b = absurd b
      at access.ReadOnly b = absurd b
      at access.PassSpent b = b
      at access.Unmapped b = b
      at (access.StoreFault j m) b = (b.0, laws.stays b.0 x.seen y.seen z.seen z.seen (goes_grown laws x y p.0 es p.1) ([], refl) b.1, subst (λ (o : ℕ). Blames k o j m b.0) num b.2)

  -- a piece that stopped made at most four holds more than for its entries
  stopped_few : (k : Key) (reasons : Why → Bool) (old new : PassSeen T Entry) → PieceWent k reasons old new [] → HoldsStayFew old new
  stopped_few k reasons old new w = record {
    few = λ alone home.
        let most = (w.bound alone home).1 in
        let held : new.holds ≡ old.holds + w.times = ap (λ (p : PassSeen T Entry). p.holds) w.grew.after in
        let made : length new.mine ≡ length w.own + length old.mine = ap (λ (p : PassSeen T Entry). length p.mine) w.grew.after ∙ length-append w.own old.mine in
        omega (arith, most, held, made);
  }

module _ (laws : WentLaws) where
  whole_or : (b : Bool) (own mine : List Entry) → trips_are_whole own ≡ true → trips_are_whole mine ≡ true → trips_are_whole (cond b own [] ++ mine) ≡ true
  whole_or true own mine a b = laws.whole.both own mine a b
  whole_or false own mine a b = b

module _ {S J : Type 0} (laws : WentLaws) where
  -- the piece that is next was done too
  pub done_more : (stripe : Key → ℕ) (s : ℕ) (reasons : Why → Bool) (pager : SharedPager S J) (old now new : PassesSeen (StripeBox S J)) (accesses : List Entry) (k : Key) (e : Entry)
      → ((j : ℕ) (pass : PassSeen (StripeBox S J) Entry) → slice_get now.passes j ≡ Some pass → pass.inside ≡ false)
      → stripe k ≡ s → key_of e ≡ Some k → is_access e ≡ true → ((j : Key) → is_part reasons j e ≡ true) → ((j : Key) → at_hand j e ≡ k)
      → AccessesDone stripe reasons old now accesses → InStripe s pager now new (λ u before after. PieceDone k reasons e before after)
      → AccessesDone stripe reasons old new (accesses ++ e ∷ [])
  done_more stripe s reasons pager old now new accesses k e out here its is part hand d w =
      let went : PieceWent k reasons w.before w.after (e ∷ []) = w.did.went in
      let order : filter is_access went.own ≡ e ∷ [] =
      ap (filter is_access) went.own_are ∙ (ap (λ (b : Bool). cond b (e ∷ filter is_access went.helped) (filter is_access went.helped)) is ∙ ap (λ (x : List Entry). e ∷ x) (none_access reasons k went.helped went.kinds)) in
      let over : WentOver stripe now new (e ∷ []) (λ j. cond (j == s) went.own []) =
      went_in laws stripe s now new w.before w.after went.times (e ∷ []) went.own out w.before_is w.after_is w.scratch went.grew order (one_part stripe s k e its here) in
      record {
        own = λ j. cond (j == s) went.own [] ++ d.own j;
        went = went_both laws stripe old now new accesses (e ∷ []) d.own (λ j. cond (j == s) went.own []) d.went over;
        whole = λ j. whole_or laws (j == s) went.own (d.own j) went.whole (d.whole j);
        tries = λ j q. tried j q went.own went.helped went.own_are went.kinds (j == s);
        few = λ j. few_in_both laws (slice_get old.passes j) (slice_get now.passes j) (slice_get new.passes j) (d.own j) (cond (j == s) went.own []) (d.went.each j) (over.each j) (d.few j)
            (of_stripe_or laws FewIn s now new w.before w.after w.before_is w.after_is w.did.few (few_in_none laws) j);
      }
    where
      tried : (j : ℕ) (q : Key) (own helped : List Entry) → own ≡ (e ∷ []) ++ helped → list_all (is_try k reasons) helped ≡ true → (b : Bool) → are_tries reasons q (cond b own [] ++ d.own j) ≡ true
      tried j q own helped are kinds false = d.tries j q
      tried j q own helped are kinds true = subst (λ (es : List Entry). are_tries reasons q (es ++ d.own j) ≡ true) (sym are) (tries_one reasons q k e (helped ++ d.own j) (part q) (hand q) (tries_more reasons k helped (d.own j) kinds (d.tries j k)))

  -- it wasn't done
  pub stopped_at : (stripe : Key → ℕ) (s : ℕ) (reasons : Why → Bool) (make : Key → ℕ → List ℕ → Entry) (pager : SharedPager S J) (all front rest : List Piece) (next : Piece) (done : ℕ) (bytes : List ℕ) (old now new : PassesSeen (StripeBox S J)) (why : Access)
      → ((j : ℕ) (pass : PassSeen (StripeBox S J) Entry) → slice_get now.passes j ≡ Some pass → pass.inside ≡ false)
      → stripe next.key ≡ s → (before : AreBefore all done front) → before.next ≡ next
      → AccessesDone stripe reasons old now (accesses_by make front bytes) → InStripe s pager now new (λ u old new. PieceStopped next.key reasons old new why)
      → AccessesStopped stripe reasons make all done bytes old new why
  stopped_at stripe s reasons make pager all front rest next done bytes old now new why out here before same d w =
      let went : PieceWent next.key reasons w.before w.after [] = w.did.went in
      let order : filter is_access went.own ≡ [] = ap (filter is_access) went.own_are ∙ none_access reasons next.key went.helped went.kinds in
      let over : WentOver stripe now new [] (λ j. cond (j == s) went.own []) =
      went_in laws stripe s now new w.before w.after went.times [] went.own out w.before_is w.after_is w.scratch went.grew order (λ j. none_part (j == s)) in
      let key : before.next.key ≡ next.key = ap (λ (p : Piece). p.key) same in
      record {
        pieces = front;
        before = before;
        own = λ j. cond (j == s) went.own [] ++ d.own j;
        went = subst (λ (es : List Entry). WentOver stripe old new es (λ j. cond (j == s) went.own [] ++ d.own j)) (append-nil (accesses_by make front bytes)) (went_both laws stripe old now new (accesses_by make front bytes) [] d.own (λ j. cond (j == s) went.own []) d.went over);
        whole = λ j. whole_or laws (j == s) went.own (d.own j) went.whole (d.whole j);
        tries = λ j. subst (λ (q : Key). are_tries reasons q (cond (j == s) went.own [] ++ d.own j) ≡ true) (sym key) (tried j went.own went.helped went.own_are went.kinds (j == s));
        few = λ j. stay_in_both laws (slice_get old.passes j) (slice_get now.passes j) (slice_get new.passes j) (d.own j) (cond (j == s) went.own []) (d.went.each j) (over.each j) (d.few j)
            (of_stripe_or laws StaysFewIn s now new w.before w.after w.before_is w.after_is (stopped_few laws next.key reasons w.before w.after went) (stay_in_none laws) j);
        because = subst (λ (q : Key). BecauseIn (slice_get old.passes (stripe q)) (slice_get new.passes (stripe q)) q why) (sym key)
            (because_since laws next.key why (slice_get old.passes (stripe next.key)) (slice_get now.passes (stripe next.key)) (slice_get new.passes (stripe next.key)) (d.own (stripe next.key)) [] (d.went.each (stripe next.key)) cause);
      }
    where
      tried : (j : ℕ) (own helped : List Entry) → own ≡ [] ++ helped → list_all (is_try next.key reasons) helped ≡ true → (b : Bool) → are_tries reasons next.key (cond b own [] ++ d.own j) ≡ true
      tried j own helped are kinds false = d.tries j next.key
      tried j own helped are kinds true = subst (λ (es : List Entry). are_tries reasons next.key (es ++ d.own j) ≡ true) (sym are) (tries_more reasons next.key helped (d.own j) kinds (d.tries j next.key))

      at_now : slice_get now.passes (stripe next.key) ≡ Some w.before
      at_now = subst (λ (i : ℕ). slice_get now.passes i ≡ Some w.before) (sym here) w.before_is

      at_new : slice_get new.passes (stripe next.key) ≡ Some w.after
      at_new = ap (λ ps. slice_get ps (stripe next.key)) w.after_is ∙ subst (λ (i : ℕ). slice_get (slice_set now.passes s w.after) i ≡ Some w.after) (sym here) (slice_set_same now.passes s w.before w.after w.before_is)

      cause : BecauseIn (slice_get now.passes (stripe next.key)) (slice_get new.passes (stripe next.key)) next.key why
      cause = subst (λ (o : Option (PassSeen (StripeBox S J) Entry)). BecauseIn o (slice_get new.passes (stripe next.key)) next.key why) (sym at_now)
          (subst (λ (o : Option (PassSeen (StripeBox S J) Entry)). BecauseIn (Some w.before) o next.key why) (sym at_new) w.did.because)
