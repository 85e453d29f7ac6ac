-- What a walk over one stripe did, by the stripe's number: a flush, and the unmapping of a region.
use Rattle.std.specs.Prelude.{ℕ, Bool}
use Rattle.locked_stripe.specs.declared.answers.Access.{Access}
use Rattle.locked_stripe.specs.declared.stripe_box.StripeBox.{StripeBox}
use Rattle.locked_stripe.specs.Walks.{FlushWent, FlushStopped, UnmapWent, UnmapStopped}
use Rattle.umap_pager.specs.Passes.{PassesSeen, InStripe}
use Rattle.umap_pager.specs.Shared.{SharedPager}

module _ {S J : Type 0} where
  -- a stripe was flushed, or its flush ended so
  abbrev pub FlushesIn : ℕ → SharedPager S J → (old new : PassesSeen (StripeBox S J)) → Type 0
  FlushesIn s pager old new = InStripe s pager old new (λ u before after. FlushWent before after)

  abbrev pub FlushStopsIn : ℕ → SharedPager S J → (old new : PassesSeen (StripeBox S J)) → Access → Type 0
  FlushStopsIn s pager old new why = InStripe s pager old new (λ u before after. FlushStopped u before after why)

  -- a region is unmapped in a stripe, and was so before or not; or its unmapping ended so
  abbrev pub UnmapsIn : ℕ → SharedPager S J → (region : ℕ) → (old new : PassesSeen (StripeBox S J)) → Bool → Type 0
  UnmapsIn s pager r old new was = InStripe s pager old new (λ u before after. UnmapWent r was before after)

  abbrev pub UnmapStopsIn : ℕ → SharedPager S J → (region : ℕ) → (old new : PassesSeen (StripeBox S J)) → Access → Type 0
  UnmapStopsIn s pager r old new why = InStripe s pager old new (λ u before after. UnmapStopped u r before after why)
