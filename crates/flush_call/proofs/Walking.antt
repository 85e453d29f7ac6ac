-- From stripe to stripe.
use Rattle.std.proofs.Common.{◌≡◌, ℕ, ◌+◌, ◌<◌, ◌≤◌, ◌⊎◌, inl, inr, Bool, true, false, ◌&&◌, List, length, slice_set, Some, refl, sym, subst, ap, ◌∙◌, arith}
use Rattle.std.specs.List.{slice_get}
use Rattle.std.proofs.lemmas.Bool.{cases_eq}
use Rattle.std.proofs.lemmas.Option.{slice_get_within}
use Rattle.page_model.specs.declared.entry.Entry.{Entry}
use Rattle.page_model.specs.Setups.{Setup}
use Rattle.turn_lock.specs.Seen.{LockSeen, PassSeen}
use Rattle.locked_stripe.specs.declared.stripe_box.StripeBox.{StripeBox}
use Rattle.locked_stripe.specs.Terms.{locked_setup}
use Rattle.locked_stripe.specs.declared.answers.Access.{Access}
use Rattle.locked_stripe.specs.declared.answers.Access.TheVariants as access
use Rattle.locked_stripe.specs.Walks.{FlushStopped, FlushWent, UnmapStopped, UnmapWent}
use Rattle.umap_pager.specs.Passes.{PassesSeen, InStripe}
use Rattle.umap_pager.specs.Shared.{SharedPager}
use Rattle.flush_call.specs.Flushes.{FlushStops}
use Rattle.flush_call.specs.InsideWalks.{GoneSoFar, WalkedTo}
use Rattle.flush_call.specs.OverStripes.{DidIn, EachStripe, OneStopped}
use Rattle.flush_call.specs.Unmaps.{IsNowUnmapped, MappedSomewhere, NewlyUnmapped, UnmapStops}
use Rattle.flush_call.proofs.Lists.{set_elsewhere, set_here, set_length}
use Rattle.flush_call.proofs.Results.{same_some}

module _ {S J : Type 0} where
  pub walked_none : (Did : Setup → (old new : PassSeen (StripeBox S J) Entry) → Type 0) (pager : SharedPager S J) (p : PassesSeen (StripeBox S J)) → WalkedTo Did 0 pager p p
  walked_none Did pager p = record {
    as_many = refl;
    scratch = refl;
    did = λ s below. absurd (omega (arith, below));
    ahead = λ s past. refl;
  }

  -- the stripe that is next
  here : (Did More : Setup → (old new : PassSeen (StripeBox S J) Entry) → Type 0) (n : ℕ) (pager : SharedPager S J) (old now new : PassesSeen (StripeBox S J)) → WalkedTo Did n pager old now → InStripe n pager now new More → DidIn More n pager old new
  here Did More n pager old now new w d lock before after l b a =
      let lock_is : d.lock ≡ lock = same_some d.lock lock (sym d.lock_is ∙ l) in
      let before_is : d.before ≡ before = same_some d.before before (sym d.before_is ∙ (w.ahead n (omega arith) ∙ b)) in
      let after_is : d.after ≡ after = same_some d.after after (sym (ap (λ ps. slice_get ps n) d.after_is ∙ set_here now.passes n d.before d.after d.before_is) ∙ a) in
      subst (λ (x : LockSeen (StripeBox S J)). More (locked_setup x) before after) lock_is (subst (λ (x : PassSeen (StripeBox S J) Entry). More (locked_setup d.lock) x after) before_is (subst (λ (x : PassSeen (StripeBox S J) Entry). More (locked_setup d.lock) d.before x) after_is d.did))

  -- the stripes before it
  below : (Did More : Setup → (old new : PassSeen (StripeBox S J) Entry) → Type 0) (n : ℕ) (pager : SharedPager S J) (old now new : PassesSeen (StripeBox S J)) → WalkedTo Did n pager old now → InStripe n pager now new More → (s : ℕ) → s < n → DidIn Did s pager old new
  below Did More n pager old now new w d s before_n lock before after l b a =
      w.did s before_n lock before after l b (sym (ap (λ ps. slice_get ps s) d.after_is ∙ set_elsewhere now.passes n s d.after (λ e. omega (arith, before_n, e))) ∙ a)

  -- and those behind it
  behind : (Did More : Setup → (old new : PassSeen (StripeBox S J) Entry) → Type 0) (n : ℕ) (pager : SharedPager S J) (old now new : PassesSeen (StripeBox S J)) → WalkedTo Did n pager old now → InStripe n pager now new More → (s : ℕ) → n < s → slice_get new.passes s ≡ slice_get old.passes s
  behind Did More n pager old now new w d s past =
      ap (λ ps. slice_get ps s) d.after_is ∙ (set_elsewhere now.passes n s d.after (λ e. omega (arith, past, e)) ∙ w.ahead s (omega (arith, past)))

  many : (Did More : Setup → (old new : PassSeen (StripeBox S J) Entry) → Type 0) (n : ℕ) (pager : SharedPager S J) (old now new : PassesSeen (StripeBox S J)) → WalkedTo Did n pager old now → InStripe n pager now new More → length new.passes ≡ length old.passes
  many Did More n pager old now new w d = ap length d.after_is ∙ (set_length now.passes n d.after ∙ w.as_many)

  pub walked_more : (Did : Setup → (old new : PassSeen (StripeBox S J) Entry) → Type 0) (n : ℕ) (pager : SharedPager S J) (old now new : PassesSeen (StripeBox S J)) → WalkedTo Did n pager old now → InStripe n pager now new Did → WalkedTo Did (n + 1) pager old new
  walked_more Did n pager old now new w d = record {
    as_many = many Did Did n pager old now new w d;
    scratch = d.scratch ∙ w.scratch;
    did = λ s before_n. elim (cases_eq s n) [
      | inl e ↦ subst (λ (i : ℕ). DidIn Did i pager old new) (sym e) (here Did Did n pager old now new w d)
      | inr ne ↦ below Did Did n pager old now new w d s (omega (arith, before_n, ne))
    ];
    ahead = λ s past. behind Did Did n pager old now new w d s (omega (arith, past));
  }

  pub walked_all : (Did : Setup → (old new : PassSeen (StripeBox S J) Entry) → Type 0) (n : ℕ) (pager : SharedPager S J) (old new : PassesSeen (StripeBox S J)) → length pager.locks ≤ n → WalkedTo Did n pager old new → EachStripe Did pager old new
  walked_all Did n pager old new all w = record {
    as_many = w.as_many;
    scratch = w.scratch;
    did = λ s lock before after l b a. let inside = slice_get_within pager.locks s lock l in w.did s (omega (arith, inside, all)) lock before after l b a;
  }

  pub walked_stopped : (Did Stopped : Setup → (old new : PassSeen (StripeBox S J) Entry) → Type 0) (n : ℕ) (pager : SharedPager S J) (old now new : PassesSeen (StripeBox S J)) → WalkedTo Did n pager old now → InStripe n pager now new Stopped → OneStopped Did Stopped pager old new
  walked_stopped Did Stopped n pager old now new w d = record {
    as_many = many Did Stopped n pager old now new w d;
    scratch = d.scratch ∙ w.scratch;
    stripe = n;
    below = slice_get_within pager.locks n d.lock d.lock_is;
    did = below Did Stopped n pager old now new w d;
    stopped = here Did Stopped n pager old now new w d;
    behind = behind Did Stopped n pager old now new w d;
  }

  -- the flush of one stripe ended so
  pub stops_flushing : (n : ℕ) (why : Access) (pager : SharedPager S J) (old now new : PassesSeen (StripeBox S J)) → WalkedTo (λ u a b. FlushWent a b) n pager old now → InStripe n pager now new (λ u a b. FlushStopped u a b why) → FlushStops pager old new why
  stops_flushing n access.OutOfRange pager old now new w d = absurd d.did
  stops_flushing n access.ReadOnly pager old now new w d = absurd d.did
  stops_flushing n access.Unmapped pager old now new w d = absurd d.did
  stops_flushing n access.PassSpent pager old now new w d = walked_stopped (λ u a b. FlushWent a b) (λ u a b. FlushStopped u a b access.PassSpent) n pager old now new w d
  stops_flushing n (access.StoreFault k m) pager old now new w d = walked_stopped (λ u a b. FlushWent a b) (λ u a b. FlushStopped u a b (access.StoreFault k m)) n pager old now new w d

  -- ---- an unmapping

  pub gone_more : (r n : ℕ) (gone before : Bool) (pager : SharedPager S J) (old now new : PassesSeen (StripeBox S J)) → WalkedTo (λ u a b. IsNowUnmapped r a b) n pager old now → GoneSoFar gone r n pager old now
      → InStripe n pager now new (λ u a b. UnmapWent r before a b) → GoneSoFar (gone && before) r (n + 1) pager old new
  gone_more r n true true pager old now new w g d = walked_more (λ u a b. UnmapWent r true a b) n pager old now new g d
  gone_more r n true false pager old now new w g d = (
    record {
      stripe = n;
      before = d.before;
      after = d.after;
      before_is = sym (w.ahead n (omega arith)) ∙ d.before_is;
      after_is = ap (λ ps. slice_get ps n) d.after_is ∙ set_here now.passes n d.before d.after d.before_is;
      found = d.did.began;
    },
    omega arith,
  )
  gone_more r n false before pager old now new w g d =
      let m = g.0 in
      let less = g.1 in (
        record {
          stripe = m.stripe;
          before = m.before;
          after = m.after;
          before_is = m.before_is;
          after_is = ap (λ ps. slice_get ps m.stripe) d.after_is ∙ (set_elsewhere now.passes n m.stripe d.after (λ e. omega (arith, less, e)) ∙ m.after_is);
          found = m.found;
        },
        omega (arith, less),
      )

  pub now_unmapped : (r n : ℕ) (before : Bool) (pager : SharedPager S J) (now new : PassesSeen (StripeBox S J)) → InStripe n pager now new (λ u a b. UnmapWent r before a b) → InStripe n pager now new (λ u a b. IsNowUnmapped r a b)
  now_unmapped r n before pager now new d = record {
    lock = d.lock;
    before = d.before;
    after = d.after;
    lock_is = d.lock_is;
    before_is = d.before_is;
    after_is = d.after_is;
    scratch = d.scratch;
    did = (before, d.did);
  }

  -- every stripe's first hold found the region unmapped
  pub all_gone : (r n : ℕ) (gone : Bool) (pager : SharedPager S J) (old new : PassesSeen (StripeBox S J)) → gone ≡ true → length pager.locks ≤ n → GoneSoFar gone r n pager old new → EachStripe (λ u a b. UnmapWent r true a b) pager old new
  all_gone r n true pager old new e all g = walked_all (λ u a b. UnmapWent r true a b) n pager old new all g
  all_gone r n false pager old new e all g = absurd cc

  -- or one didn't
  pub newly : (r n : ℕ) (gone : Bool) (pager : SharedPager S J) (old new : PassesSeen (StripeBox S J)) → gone ≡ false → length pager.locks ≤ n → WalkedTo (λ u a b. IsNowUnmapped r a b) n pager old new → GoneSoFar gone r n pager old new → NewlyUnmapped pager r old new
  newly r n true pager old new e all w g = absurd cc
  newly r n false pager old new e all w g = record { each = walked_all (λ u a b. IsNowUnmapped r a b) n pager old new all w; mapped = g.0 }

  -- the walk of one stripe ended so
  pub stops_unmapping : (r n : ℕ) (why : Access) (pager : SharedPager S J) (old now new : PassesSeen (StripeBox S J)) → WalkedTo (λ u a b. IsNowUnmapped r a b) n pager old now → InStripe n pager now new (λ u a b. UnmapStopped u r a b why) → UnmapStops pager r old new why
  stops_unmapping r n access.OutOfRange pager old now new w d = absurd d.did
  stops_unmapping r n access.ReadOnly pager old now new w d = absurd d.did
  stops_unmapping r n access.Unmapped pager old now new w d = absurd d.did
  stops_unmapping r n access.PassSpent pager old now new w d = walked_stopped (λ u a b. IsNowUnmapped r a b) (λ u a b. UnmapStopped u r a b access.PassSpent) n pager old now new w d
  stops_unmapping r n (access.StoreFault k m) pager old now new w d = walked_stopped (λ u a b. IsNowUnmapped r a b) (λ u a b. UnmapStopped u r a b (access.StoreFault k m)) n pager old now new w d
