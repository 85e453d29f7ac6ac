-- Stripes that end one after another, the last first.
use Rattle.std.specs.Prelude.{ℕ, ◌≡◌, List, ◌++◌, length, map, reverse, slice_get, Some}
use Rattle.histories.specs.Histories.{History}
use Rattle.page_base.specs.Lanes.{LaneSeen}
use Rattle.page_base.specs.ListSeen.{ListSeen}
use Rattle.page_model.specs.declared.entry.Entry.{Entry}
use Rattle.turn_lock.specs.declared.closed.Closed.{Closed}
use Rattle.turn_lock.specs.Seen.{LockSeen, PassSeen, IsPassOf}
use Rattle.locked_stripe.specs.declared.stripe_box.StripeBox.{StripeBox}
use Rattle.umap_pager.specs.Ended.{MayClose, StripeEnded}

module _ {S J : Type 0} where
  -- as many passes as locks, each of its lock, that may end it
  pub record MayCloseEach (locks : List (LockSeen (StripeBox S J))) (passes : List (PassSeen (StripeBox S J) Entry)) : Type 0 where
    pub count : length passes ≡ length locks
    pub own : (s : ℕ) (lock : LockSeen (StripeBox S J)) (pass : PassSeen (StripeBox S J) Entry) → slice_get locks s ≡ Some lock → slice_get passes s ≡ Some pass → IsPassOf lock pass
    pub may : (s : ℕ) (pass : PassSeen (StripeBox S J) Entry) → slice_get passes s ≡ Some pass → MayClose pass

-- what is left of one stripe
pub record EndedStripe (S J : Type 0) : Type 0 where
  pub lanes : ListSeen S
  pub journal : J
  pub closed : Closed Entry

module _ {S J M : Type 0} (has_noted : J → History Entry → Type 0) (made_with : J → M) (seen : S → LaneSeen) where
  -- each of these stripes ended so
  pub record EndEach (locks : List (LockSeen (StripeBox S J))) (passes : List (PassSeen (StripeBox S J) Entry)) (own : List (EndedStripe S J)) : Type 0 where
    pub count : length own ≡ length locks
    pub each : (s : ℕ) (lock : LockSeen (StripeBox S J)) (pass : PassSeen (StripeBox S J) Entry) (row : EndedStripe S J) → slice_get locks s ≡ Some lock → slice_get passes s ≡ Some pass → slice_get own s ≡ Some row
        → StripeEnded has_noted made_with lock pass (map seen row.lanes.items) row.journal row.closed

  -- what is left of them lies before what is left of later ones
  pub record EndsBefore (locks : List (LockSeen (StripeBox S J))) (passes : List (PassSeen (StripeBox S J) Entry)) (lanes : List (ListSeen S)) (journals : List J) (stripes : List (Closed Entry)) (all_lanes : List (ListSeen S)) (all_journals : List J) (all_stripes : List (Closed Entry)) : Type 0 where
    pub own : List (EndedStripe S J)
    pub ends : EndEach locks passes own
    pub lanes_are : all_lanes ≡ map (λ (x : EndedStripe S J). x.lanes) own ++ reverse lanes
    pub journals_are : all_journals ≡ map (λ (x : EndedStripe S J). x.journal) own ++ reverse journals
    pub stripes_are : all_stripes ≡ map (λ (x : EndedStripe S J). x.closed) own ++ reverse stripes
