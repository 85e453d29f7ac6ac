-- What a flush did.
use Rattle.page_model.specs.declared.entry.Entry.{Entry}
use Rattle.turn_lock.specs.Seen.{PassSeen}
use Rattle.locked_stripe.specs.declared.answers.Access.{Access}
use Rattle.locked_stripe.specs.declared.answers.Access.TheVariants as access
use Rattle.locked_stripe.specs.declared.stripe_box.StripeBox.{StripeBox}
use Rattle.locked_stripe.specs.Walks.{FlushWent, FlushStopped}
use Rattle.umap_pager.specs.Passes.{PassesSeen}
use Rattle.umap_pager.specs.Shared.{SharedPager}
use Rattle.flush_call.specs.OverStripes.{EachStripe, OneStopped}

module _ {S J : Type 0} where
  -- every stripe was flushed
  abbrev pub AllFlushed : SharedPager S J → (old new : PassesSeen (StripeBox S J)) → Type 0
  AllFlushed pager old new = EachStripe (λ u before after. FlushWent before after) pager old new

  -- so were the stripes before one, and the flush of that one ended so
  abbrev pub FlushStops : SharedPager S J → (old new : PassesSeen (StripeBox S J)) → Access → Type 0
  FlushStops pager old new access.OutOfRange = ⊥
  FlushStops pager old new access.ReadOnly = ⊥
  FlushStops pager old new access.Unmapped = ⊥
  FlushStops pager old new why = OneStopped (λ u before after. FlushWent before after) (λ u before after. FlushStopped u before after why) pager old new
