-- How an access of a range is refused.
use Rattle.std.proofs.Common.{◌≡◌, ℕ, ◌+◌, ◌≤◌, List, length, take, drop, Option, Some, None}
use Rattle.std.specs.List.{slice_get}
use Rattle.page_base.specs.declared.keys.Key.{Key}
use Rattle.page_model.specs.declared.entry.Entry.{Entry}
use Rattle.page_model.specs.declared.entry.Entry.TheVariants.{Load, Save}
use Rattle.turn_lock.specs.Seen.{PassSeen}
use Rattle.locked_stripe.specs.declared.answers.Access.{Access}
use Rattle.locked_stripe.specs.declared.answers.Access.TheVariants as access
use Rattle.locked_stripe.specs.declared.stripe_box.StripeBox.{StripeBox}
use Rattle.locked_stripe.specs.Calls.{for_load, for_store}
use Rattle.umap_pager.specs.Passes.{PassesSeen}
use Rattle.umap_pager.specs.Ranges.{AccessesStopped, IsStorable, LoadRefused, StoreRefused}
use Rattle.umap_pager.specs.Shared.{SharedPager, page_stripe, region_size, range_pieces}
use Rattle.umap_pager.specs.Went.{BecauseIn}

module _ {T : Type 0} where
  not_because : (k : Key) (a b : Option (PassSeen T Entry)) → (BecauseIn a b k access.OutOfRange → ⊥) × (BecauseIn a b k access.ReadOnly → ⊥)
  not_because k a b = (range a b, only a b)
    where
      range : (x y : Option (PassSeen T Entry)) → BecauseIn x y k access.OutOfRange → ⊥
      range None y h = h
      range (Some x) None h = h
      range (Some x) (Some y) h = h

      only : (x y : Option (PassSeen T Entry)) → BecauseIn x y k access.ReadOnly → ⊥
      only None y h = h
      only (Some x) None h = h
      only (Some x) (Some y) h = h

module _ {S J : Type 0} where
  pub load_refused : (pager : SharedPager S J) (r off : ℕ) (old new : PassesSeen (StripeBox S J)) (before after : List ℕ) (why : Access) (done : ℕ) → off + length before ≤ region_size pager r → drop done after ≡ drop done before
      → AccessesStopped (page_stripe pager) for_load (λ k place its. Load k place its) (range_pieces pager r off (length before)) done (take done after) old new why → LoadRefused pager r off old new before after why
  load_refused pager r off old new before after access.OutOfRange done range rest s = absurd ((not_because s.before.next.key (slice_get old.passes (page_stripe pager s.before.next.key)) (slice_get new.passes (page_stripe pager s.before.next.key))).0 s.because)
  load_refused pager r off old new before after access.ReadOnly done range rest s = (not_because s.before.next.key (slice_get old.passes (page_stripe pager s.before.next.key)) (slice_get new.passes (page_stripe pager s.before.next.key))).1 s.because
  load_refused pager r off old new before after access.PassSpent done range rest s = (range, record { done = done; rest = rest; stopped = s })
  load_refused pager r off old new before after access.Unmapped done range rest s = (range, record { done = done; rest = rest; stopped = s })
  load_refused pager r off old new before after (access.StoreFault k n) done range rest s = (range, record { done = done; rest = rest; stopped = s })

  pub store_refused : (pager : SharedPager S J) (r off : ℕ) (bytes : List ℕ) (old new : PassesSeen (StripeBox S J)) (why : Access) (done : ℕ) → IsStorable pager r off (length bytes)
      → AccessesStopped (page_stripe pager) for_store (λ k place its. Save k place its) (range_pieces pager r off (length bytes)) done bytes old new why → StoreRefused pager r off bytes old new why
  store_refused pager r off bytes old new access.OutOfRange done may s = absurd ((not_because s.before.next.key (slice_get old.passes (page_stripe pager s.before.next.key)) (slice_get new.passes (page_stripe pager s.before.next.key))).0 s.because)
  store_refused pager r off bytes old new access.ReadOnly done may s = absurd ((not_because s.before.next.key (slice_get old.passes (page_stripe pager s.before.next.key)) (slice_get new.passes (page_stripe pager s.before.next.key))).1 s.because)
  store_refused pager r off bytes old new access.PassSpent done may s = (may, record { done = done; stopped = s })
  store_refused pager r off bytes old new access.Unmapped done may s = (may, record { done = done; stopped = s })
  store_refused pager r off bytes old new (access.StoreFault k n) done may s = (may, record { done = done; stopped = s })
