-- What the unmapping of a region did.
use Rattle.std.specs.Prelude.{ℕ, ◌≡◌, Bool, true, slice_get, Some}
use Rattle.page_model.specs.declared.entry.Entry.{Entry}
use Rattle.turn_lock.specs.Seen.{PassSeen}
use Rattle.locked_stripe.specs.declared.answers.Access.{Access}
use Rattle.locked_stripe.specs.declared.answers.Access.TheVariants as access
use Rattle.locked_stripe.specs.declared.stripe_box.StripeBox.{StripeBox}
use Rattle.locked_stripe.specs.Walks.{FoundMapped, UnmapWent, UnmapStopped}
use Rattle.umap_pager.specs.Passes.{PassesSeen}
use Rattle.umap_pager.specs.Shared.{SharedPager}
use Rattle.flush_call.specs.OverStripes.{EachStripe, OneStopped}

module _ {T : Type 0} where
  -- the region is unmapped, and was so before or not
  abbrev pub IsNowUnmapped : (region : ℕ) → (old new : PassSeen T Entry) → Type 0
  IsNowUnmapped r old new = (before : Bool) × UnmapWent r before old new

  -- in some stripe the first hold found that the region wasn't unmapped
  pub record MappedSomewhere (r : ℕ) (old new : PassesSeen T) : Type 0 where
    pub stripe : ℕ
    pub before : PassSeen T Entry
    pub after : PassSeen T Entry
    pub before_is : slice_get old.passes stripe ≡ Some before
    pub after_is : slice_get new.passes stripe ≡ Some after
    pub found : FoundMapped r before after

module _ {S J : Type 0} where
  -- the region is unmapped in every stripe, and wasn't so in one of them
  pub record NewlyUnmapped (pager : SharedPager S J) (r : ℕ) (old new : PassesSeen (StripeBox S J)) : Type 0 where
    pub each : EachStripe (λ u before after. IsNowUnmapped r before after) pager old new
    pub mapped : MappedSomewhere r old new

  -- `Unmapped` says that it was unmapped in every stripe, and nothing was made; else the walk of one stripe ended so
  abbrev pub UnmapStops : SharedPager S J → (region : ℕ) → (old new : PassesSeen (StripeBox S J)) → Access → Type 0
  UnmapStops pager r old new access.OutOfRange = ⊥
  UnmapStops pager r old new access.ReadOnly = ⊥
  UnmapStops pager r old new access.Unmapped = EachStripe (λ u before after. UnmapWent r true before after) pager old new
  UnmapStops pager r old new why = OneStopped (λ u before after. IsNowUnmapped r before after) (λ u before after. UnmapStopped u r before after why) pager old new
