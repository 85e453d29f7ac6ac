-- What a call did that goes from stripe to stripe, in rising order.
use Rattle.std.specs.Prelude.{ℕ, ◌<◌, ◌≡◌, length, slice_get, Some}
use Rattle.page_model.specs.declared.entry.Entry.{Entry}
use Rattle.page_model.specs.Setups.{Setup}
use Rattle.turn_lock.specs.Seen.{LockSeen, PassSeen}
use Rattle.locked_stripe.specs.declared.stripe_box.StripeBox.{StripeBox}
use Rattle.locked_stripe.specs.Terms.{locked_setup}
use Rattle.umap_pager.specs.Passes.{PassesSeen}
use Rattle.umap_pager.specs.Shared.{SharedPager}

module _ {S J : Type 0} where
  -- what the call did with the pass of this stripe, before and after
  abbrev pub DidIn : (Did : Setup → (old new : PassSeen (StripeBox S J) Entry) → Type 0) → ℕ → SharedPager S J → (old new : PassesSeen (StripeBox S J)) → Type 0
  DidIn Did s pager old new =
      (lock : LockSeen (StripeBox S J)) (before after : PassSeen (StripeBox S J) Entry)
      → slice_get pager.locks s ≡ Some lock → slice_get old.passes s ≡ Some before → slice_get new.passes s ≡ Some after
      → Did (locked_setup lock) before after

  -- it did so in every stripe
  pub record EachStripe (Did : Setup → (old new : PassSeen (StripeBox S J) Entry) → Type 0) (pager : SharedPager S J) (old new : PassesSeen (StripeBox S J)) : Type 0 where
    pub as_many : length new.passes ≡ length old.passes
    pub scratch : new.scratch ≡ old.scratch
    pub did : (s : ℕ) → DidIn Did s pager old new

  -- it did so in the stripes before one, stopped so in that one, and did nothing in those behind it
  pub record OneStopped (Did Stopped : Setup → (old new : PassSeen (StripeBox S J) Entry) → Type 0) (pager : SharedPager S J) (old new : PassesSeen (StripeBox S J)) : Type 0 where
    pub as_many : length new.passes ≡ length old.passes
    pub scratch : new.scratch ≡ old.scratch
    pub stripe : ℕ
    pub below : stripe < length pager.locks
    pub did : (s : ℕ) → s < stripe → DidIn Did s pager old new
    pub stopped : DidIn Stopped stripe pager old new
    pub behind : (s : ℕ) → stripe < s → slice_get new.passes s ≡ slice_get old.passes s
