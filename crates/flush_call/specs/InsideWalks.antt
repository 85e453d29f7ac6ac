-- A call that goes from stripe to stripe, so far.
use Rattle.std.specs.Prelude.{ℕ, ◌<◌, ◌≤◌, ◌≡◌, Bool, true, false, length, slice_get}
use Rattle.page_model.specs.declared.entry.Entry.{Entry}
use Rattle.page_model.specs.Setups.{Setup}
use Rattle.turn_lock.specs.Seen.{PassSeen}
use Rattle.locked_stripe.specs.declared.stripe_box.StripeBox.{StripeBox}
use Rattle.locked_stripe.specs.Walks.{UnmapWent}
use Rattle.umap_pager.specs.Passes.{PassesSeen}
use Rattle.umap_pager.specs.Shared.{SharedPager}
use Rattle.flush_call.specs.OverStripes.{DidIn}
use Rattle.flush_call.specs.Unmaps.{IsNowUnmapped, MappedSomewhere}

module _ {S J : Type 0} where
  -- it did so in the stripes before this one, and nothing in the others
  pub record WalkedTo (Did : Setup → (old new : PassSeen (StripeBox S J) Entry) → Type 0) (n : ℕ) (pager : SharedPager S J) (old now : PassesSeen (StripeBox S J)) : Type 0 where
    pub as_many : length now.passes ≡ length old.passes
    pub scratch : now.scratch ≡ old.scratch
    pub did : (s : ℕ) → s < n → DidIn Did s pager old now
    pub ahead : (s : ℕ) → n ≤ s → slice_get now.passes s ≡ slice_get old.passes s

  -- the region was unmapped in all stripes before this one, or it wasn't in one of them
  abbrev pub GoneSoFar : (gone : Bool) → (region n : ℕ) → SharedPager S J → (old now : PassesSeen (StripeBox S J)) → Type 0
  GoneSoFar true r n pager old now = WalkedTo (λ u before after. UnmapWent r true before after) n pager old now
  GoneSoFar false r n pager old now = (m : MappedSomewhere r old now) × (m.stripe < n)
