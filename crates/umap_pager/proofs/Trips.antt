-- Passes whose calls have left no trip open.
use Rattle.std.proofs.Common.{◌≡◌, ℕ, zero, suc, ◌<◌, ◌≤◌, ◌==◌, ◌⊎◌, inl, inr, Bool, true, false, cond, List, [], ◌∷◌, ◌++◌, length, length-append, map, slice_set, Option, Some, None, arith, refl, sym, subst, ap, ◌∙◌}
use Rattle.std.specs.List.{slice_get}
use Rattle.std.specs.Option.{option_map}
use Rattle.std.proofs.lemmas.Bool.{cases_Bool, eqb-true, eq-eqb}
use Rattle.std.proofs.lemmas.Option.{slice_get-map, slice_get_within}
use Rattle.histories.specs.Histories.{History, calls_of}
use Rattle.page_base.specs.declared.keys.Key.{Key}
use Rattle.page_base.specs.Lanes.{LaneSeen}
use Rattle.page_model.specs.declared.entry.Entry.{Entry}
use Rattle.page_model.specs.Setups.{Setup}
use Rattle.region_table.specs.Regions.{TableSeen}
use Rattle.turn_lock.specs.declared.view.Ended.{Ended}
use Rattle.turn_lock.specs.Seen.{LockSeen, PassSeen, HaveTheirCalls, OwnersAreKnown, first_pass, split_once, newcomer, folded}
use Rattle.locked_stripe.specs.declared.answers.Access.{Access}
use Rattle.locked_stripe.specs.declared.answers.Access.TheVariants as access
use Rattle.locked_stripe.specs.declared.answers.Back.{Back}
use Rattle.locked_stripe.specs.declared.answers.Served.{Served}
use Rattle.locked_stripe.specs.declared.stripe_box.StripeBox.{StripeBox}
use Rattle.locked_stripe.specs.Answers.{served_entries, served_holds, back_entries, back_holds}
use Rattle.locked_stripe.specs.Calls.{AllHome}
use Rattle.locked_stripe.specs.Holds.{PassGrew}
use Rattle.locked_stripe.specs.TripLaws.{WholeTripsAddUp}
use Rattle.locked_stripe.specs.WholeTrips.{trips_are_whole}
use Rattle.umap_pager.specs.declared.config.PagerConfig.{PagerConfig}
use Rattle.umap_pager.specs.Ended.{MayClose, AllMayClose}
use Rattle.umap_pager.specs.InsideLaws.{WentLaws}
use Rattle.umap_pager.specs.Opened.{CanShare, OpensShared}
use Rattle.umap_pager.specs.Passes.{PassesSeen, InStripe, ServesIn, MakesRoomIn, FoldsOne, FoldsAll, split_all, newcomers}
use Rattle.umap_pager.specs.Ranges.{LoadRefused, StoreRefused}
use Rattle.umap_pager.specs.Shared.{SharedPager}
use Rattle.umap_pager.specs.TripLaws.{StayWhole, CallsEndTrips}
use Rattle.umap_pager.specs.Went.{PassWent, WentOver}
use Rattle.umap_pager.specs.WholePasses.{HasWholeTrips, HaveWholeTrips}
use Rattle.umap_pager.proofs.Added.{of_stripe_or}
use Rattle.umap_pager.proofs.Ending.{at_seam}
use Rattle.umap_pager.proofs.Locks.{has_item}

apart : (b : Bool) → b ≡ false → b ≡ true → ⊥
apart true f t = absurd cc
apart false f t = absurd cc

same : (a b : ℕ) → a ≡ b → (a == b) ≡ true
same a b e = eq-eqb a b e

some_same : {A : Type 0} {x y : A} → Some x ≡ Some y → x ≡ y
some_same e = cc

-- what a list has at a place is in its front, or is the item behind that
front_or_last : {A : Type 0} (xs : List A) (x y : A) (i : ℕ) → slice_get (xs ++ x ∷ []) i ≡ Some y → (slice_get xs i ≡ Some y) ⊎ (x ≡ y)
front_or_last [] x y zero e = inr (some_same e)
front_or_last [] x y (suc i) e = absurd cc
front_or_last (z ∷ xs) x y zero e = inl e
front_or_last (z ∷ xs) x y (suc i) e = front_or_last xs x y i e

-- where a lock's passes have left no trip open, every lane is home in its history
known_or : (ended : List (Ended Entry)) (o : ℕ) → ((i : ℕ) × (e : Ended Entry) × (slice_get ended i ≡ Some e) × (e.number ≡ o)) ⊎ ((i : ℕ) (e : Ended Entry) → slice_get ended i ≡ Some e → e.number ≡ o → ⊥)
known_or [] o = inr (λ i e at. absurd cc)
known_or (x ∷ ended) o = elim (cases_Bool (x.number == o)) [
  | inl is ↦ inl (0, x, refl, eqb-true x.number o is)
  | inr other ↦ elim (known_or ended o) [
    | inl found ↦ inl (suc found.0, found.1, found.2, found.3)
    | inr none ↦ inr (further other none)
  ]
]
  where
    further : (x.number == o) ≡ false → ((i : ℕ) (e : Ended Entry) → slice_get ended i ≡ Some e → e.number ≡ o → ⊥) → (i : ℕ) (e : Ended Entry) → slice_get (x ∷ ended) i ≡ Some e → e.number ≡ o → ⊥
    further other none zero e at is = absurd (apart (x.number == o) other (same x.number o (ap (λ (y : Ended Entry). y.number) (some_same at) ∙ is)))
    further other none (suc i) e at is = none i e at is

pub closed_home : WholeTripsAddUp → (h : History Entry) (ended : List (Ended Entry)) → trips_are_whole (calls_of 0 h) ≡ true → ((i : ℕ) (e : Ended Entry) → slice_get ended i ≡ Some e → trips_are_whole e.mine ≡ true) → HaveTheirCalls h ended → OwnersAreKnown h ended → AllHome h
closed_home laws h ended mine its calls owners = laws.home h (λ o. elim (cases_Bool (o == 0)) [
  | inl first ↦ subst (λ (p : ℕ). trips_are_whole (calls_of p h) ≡ true) (sym (eqb-true o 0 first)) mine
  | inr other ↦ elim (known_or ended o) [
    | inl found ↦ subst (λ (p : ℕ). trips_are_whole (calls_of p h) ≡ true) found.3 (ap trips_are_whole (calls found.0 found.1 found.2) ∙ its found.0 found.1 found.2)
    | inr none ↦ ap trips_are_whole (owners o (λ is. apart (o == 0) other (same o 0 is)) none)
  ]
])

module _ {T : Type 0} where
  -- one pass stays so
  abbrev Stays : (old new : PassSeen T Entry) → Type 0
  Stays old new = (HasWholeTrips old → HasWholeTrips new) × (MayClose old → MayClose new)

  abbrev StaysIn : (old new : Option (PassSeen T Entry)) → Type 0
  StaysIn None None = Unit {0}
  StaysIn (Some old) None = Unit {0}
  StaysIn None (Some new) = ⊥
  StaysIn (Some old) (Some new) = Stays old new

  stays_same : (a : Option (PassSeen T Entry)) → StaysIn a a
  stays_same None = tt
  stays_same (Some p) = (λ h. h, λ h. h)

  all_stay : (old new : PassesSeen T) → ((s : ℕ) → StaysIn (slice_get old.passes s) (slice_get new.passes s)) → StayWhole old new
  all_stay old new each = (λ all s pass there. whole s pass there all (slice_get old.passes s) refl, λ all s pass there. may s pass there all (slice_get old.passes s) refl)
    where
      here : (s : ℕ) (pass : PassSeen T Entry) → slice_get new.passes s ≡ Some pass → (o : Option (PassSeen T Entry)) → slice_get old.passes s ≡ o → StaysIn o (Some pass)
      here s pass there o is = subst (λ (x : Option (PassSeen T Entry)). StaysIn x (Some pass)) is (subst (λ (x : Option (PassSeen T Entry)). StaysIn (slice_get old.passes s) x) there (each s))

      whole : (s : ℕ) (pass : PassSeen T Entry) → slice_get new.passes s ≡ Some pass → HaveWholeTrips old → (o : Option (PassSeen T Entry)) → slice_get old.passes s ≡ o → HasWholeTrips pass
      whole s pass there all None is = absurd (here s pass there None is)
      whole s pass there all (Some before) is = (here s pass there (Some before) is).0 (all s before is)

      may : (s : ℕ) (pass : PassSeen T Entry) → slice_get new.passes s ≡ Some pass → AllMayClose old → (o : Option (PassSeen T Entry)) → slice_get old.passes s ≡ o → MayClose pass
      may s pass there all None is = absurd (here s pass there None is)
      may s pass there all (Some before) is = (here s pass there (Some before) is).1 (all s before is)

  module _ (laws : WentLaws) where
    grew_whole : (old new : PassSeen T Entry) (times : ℕ) (own : List Entry) → PassGrew old new times own → trips_are_whole own ≡ true → HasWholeTrips old → HasWholeTrips new
    grew_whole old new times own w whole h = record {
      mine = ap (λ (p : PassSeen T Entry). trips_are_whole p.mine) w.after ∙ laws.whole.both own old.mine whole h.mine;
      ended = λ i e at. h.ended i e (sym (ap (λ (p : PassSeen T Entry). slice_get p.ended i) w.after) ∙ at);
    }

    grew_stays : (old new : PassSeen T Entry) (times : ℕ) (own : List Entry) → PassGrew old new times own → trips_are_whole own ≡ true → Stays old new
    grew_stays old new times own w whole = (
      grew_whole old new times own w whole,
      λ h. record {
        first = ap (λ (p : PassSeen T Entry). p.number) w.after ∙ h.first;
        alone = ap (λ (p : PassSeen T Entry). p.out) w.after ∙ h.alone;
        whole = grew_whole old new times own w whole h.whole;
      },
    )

    went_stays : (old new : Option (PassSeen T Entry)) (own : List Entry) → PassWent old new own → trips_are_whole own ≡ true → StaysIn old new
    went_stays None None own w whole = tt
    went_stays None (Some new) own w whole = w
    went_stays (Some old) None own w whole = tt
    went_stays (Some old) (Some new) own w whole = grew_stays old new w.0 own w.1 whole

    over_stays : (stripe : Key → ℕ) (old new : PassesSeen T) (accesses : List Entry) (own : ℕ → List Entry) → WentOver stripe old new accesses own → ((s : ℕ) → trips_are_whole (own s) ≡ true) → StayWhole old new
    over_stays stripe old new accesses own w whole = all_stay old new (λ s. went_stays (slice_get old.passes s) (slice_get new.passes s) (own s) (w.each s) (whole s))

  split_whole : (old : PassesSeen T) → HaveWholeTrips old → HaveWholeTrips (split_all old)
  split_whole old all s pass there = at (slice_get old.passes s) refl (sym (slice_get-map split_once old.passes s) ∙ there)
    where
      at : (o : Option (PassSeen T Entry)) → slice_get old.passes s ≡ o → option_map split_once o ≡ Some pass → HasWholeTrips pass
      at None is e = absurd cc
      at (Some before) is e =
          let whole = all s before is in
          subst HasWholeTrips (some_same e) (record { mine = whole.mine; ended = whole.ended })

  newcomers_whole : (old : PassesSeen T) → HaveWholeTrips (newcomers old)
  newcomers_whole old s pass there = at (slice_get old.passes s) (sym (slice_get-map newcomer old.passes s) ∙ there)
    where
      at : (o : Option (PassSeen T Entry)) → option_map newcomer o ≡ Some pass → HasWholeTrips pass
      at None e = absurd cc
      at (Some before) e = subst HasWholeTrips (some_same e) (record { mine = refl; ended = λ i x none. absurd cc })

  folded_whole : (old other new : PassesSeen T) → length other.passes ≡ length old.passes → FoldsAll old other new → HaveWholeTrips old → HaveWholeTrips other → HaveWholeTrips new
  folded_whole old other new many f a b s pass there =
      let below = slice_get_within new.passes s pass there in
      let mine = has_item old.passes s (omega (arith, below, f.as_many)) in
      let its = has_item other.passes s (omega (arith, below, f.as_many, many)) in
      let one : FoldsOne mine.0 its.0 pass = f.each s mine.0 its.0 pass mine.1 its.1 there in
      let before = a s mine.0 mine.1 in
      record {
        mine = ap (λ (p : PassSeen T Entry). trips_are_whole p.mine) one.is ∙ before.mine;
        ended = λ i e at. elim (front_or_last mine.0.ended _ e i (sym (ap (λ (p : PassSeen T Entry). slice_get p.ended i) one.is) ∙ at)) [
          | inl front ↦ before.ended i e front
          | inr last ↦ sym (ap (λ (x : Ended Entry). trips_are_whole x.mine) last) ∙ (b s its.0 its.1).mine
        ];
      }

module _ {S J : Type 0} (laws : WentLaws) where
  in_stays : (s : ℕ) (pager : SharedPager S J) (old new : PassesSeen (StripeBox S J)) (before after : PassSeen (StripeBox S J) Entry) (times : ℕ) (own : List Entry)
      → slice_get old.passes s ≡ Some before → new.passes ≡ slice_set old.passes s after → PassGrew before after times own → trips_are_whole own ≡ true → StayWhole old new
  in_stays s pager old new before after times own there changed grew whole = all_stay old new (of_stripe_or laws StaysIn s old new before after there changed (grew_stays laws before after times own grew whole) stays_same)

  served_stays : (s : ℕ) (pager : SharedPager S J) (old new : PassesSeen (StripeBox S J)) (answer : Served) → ServesIn s pager old new answer → StayWhole old new
  served_stays s pager old new answer w = in_stays s pager old new w.before w.after (served_holds answer) (served_entries answer) w.before_is w.after_is w.did.grew (laws.whole.served answer)

  room_stays : (s : ℕ) (pager : SharedPager S J) (old new : PassesSeen (StripeBox S J)) (answer : Back) → MakesRoomIn s pager old new answer → StayWhole old new
  room_stays s pager old new answer w = in_stays s pager old new w.before w.after (back_holds answer) (back_entries w.did.at w.did.bytes answer) w.before_is w.after_is w.did.grew (laws.whole.back w.did.at w.did.bytes answer)

module _ {S J : Type 0} (laws : WentLaws) where
  same_stays : (old new : PassesSeen (StripeBox S J)) → new ≡ old → StayWhole old new
  same_stays old new is = subst (λ (p : PassesSeen (StripeBox S J)). StayWhole old p) (sym is) (λ h. h, λ h. h)

  load_stays : (pager : SharedPager S J) (r off : ℕ) (old new : PassesSeen (StripeBox S J)) (before after : List ℕ) (why : Access) → LoadRefused pager r off old new before after why → StayWhole old new
  load_stays pager r off old new before after access.OutOfRange w = same_stays old new w.1
  load_stays pager r off old new before after access.ReadOnly w = absurd w
  load_stays pager r off old new before after access.PassSpent w = over_stays laws _ old new _ w.1.stopped.own w.1.stopped.went w.1.stopped.whole
  load_stays pager r off old new before after access.Unmapped w = over_stays laws _ old new _ w.1.stopped.own w.1.stopped.went w.1.stopped.whole
  load_stays pager r off old new before after (access.StoreFault k n) w = over_stays laws _ old new _ w.1.stopped.own w.1.stopped.went w.1.stopped.whole

  store_stays : (pager : SharedPager S J) (r off : ℕ) (bytes : List ℕ) (old new : PassesSeen (StripeBox S J)) (why : Access) → StoreRefused pager r off bytes old new why → StayWhole old new
  store_stays pager r off bytes old new access.OutOfRange w = same_stays old new w.1
  store_stays pager r off bytes old new access.ReadOnly w = same_stays old new w.2
  store_stays pager r off bytes old new access.PassSpent w = over_stays laws _ old new _ w.1.stopped.own w.1.stopped.went w.1.stopped.whole
  store_stays pager r off bytes old new access.Unmapped w = over_stays laws _ old new _ w.1.stopped.own w.1.stopped.went w.1.stopped.whole
  store_stays pager r off bytes old new (access.StoreFault k n) w = over_stays laws _ old new _ w.1.stopped.own w.1.stopped.went w.1.stopped.whole

pub first_closes : {T : Type 0} (lock : LockSeen T) (pass : PassSeen T Entry) → pass ≡ first_pass lock → MayClose pass
first_closes lock pass first = record {
  first = ap (λ p. p.number) first;
  alone = ap (λ p. p.out) first;
  whole = record {
    mine = ap (λ p. trips_are_whole p.mine) first;
    ended = λ i e at. absurd (no_item (sym (ap (λ p. slice_get p.ended i) first) ∙ at));
  };
}
  where
    no_item : {A : Type 0} {x : A} → ◌≡◌ {A = Option A} None (Some x) → ⊥
    no_item e = absurd cc

opened_closes : {S J : Type 0} (c : PagerConfig) (t : TableSeen) (rows : List (List LaneSeen)) (journals : List J) (pager : SharedPager S J) (p : PassesSeen (StripeBox S J)) → CanShare c t rows (length journals) → OpensShared c t rows journals pager p → AllMayClose p
opened_closes c t rows journals pager p can opens s pass there =
    let below = slice_get_within p.passes s pass there in
    let lock = has_item pager.locks s (omega (arith, below, opens.fit.as_many)) in
    let row = has_item rows s (omega (arith, below, opens.fit.as_many, opens.stripes, can.stripes)) in
    let journal = has_item journals s (omega (arith, below, opens.fit.as_many, opens.stripes, can.journals)) in
    first_closes lock.0 pass (opens.each s row.0 journal.0 lock.0 pass row.1 journal.1 lock.1 there).first

pub calls_end : (S J : Type 0) → WentLaws → CallsEndTrips S J
calls_end S J laws = record {
  opened = opened_closes;
  done = λ stripe reasons old new accesses w. over_stays laws stripe old new accesses w.own w.went w.whole;
  load_refused = load_stays laws;
  store_refused = store_stays laws;
  served = served_stays laws;
  room = room_stays laws;
  split = split_whole;
  newcomers_ = newcomers_whole;
  folded = folded_whole;
}
