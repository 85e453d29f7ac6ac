-- What is left of a pager that is closed.
use Rattle.std.specs.Prelude.{ℕ, ◌+◌, ◌*◌, ◌-◌, ◌^◌, ◌≤◌, ◌≡◌, min, List, [], ◌∷◌, length, map, slice_get, Some}
use Rattle.histories.specs.Histories.{History, calls_of}
use Rattle.page_base.specs.Lanes.{LaneSeen}
use Rattle.page_base.specs.ListSeen.{ListSeen}
use Rattle.page_model.specs.declared.entry.Entry.{Entry}
use Rattle.page_model.specs.declared.seen.Counts.{Counts}
use Rattle.page_model.specs.Legal.{IsLegal}
use Rattle.page_model.specs.Setups.{Setup}
use Rattle.page_model.specs.Stands.{HomeLane}
use Rattle.page_model.specs.Tallies.{counts_of, no_counts}
use Rattle.turn_lock.specs.declared.closed.Closed.{Closed}
use Rattle.turn_lock.specs.Seen.{LockSeen, PassSeen, HaveTheirCalls, HaveTheirParts, MadeAtMost, AreNumbered, OwnersAreKnown}
use Rattle.locked_stripe.specs.declared.stripe_box.StripeBox.{StripeBox}
use Rattle.locked_stripe.specs.Terms.{locked_setup}
use Rattle.umap_pager.specs.Passes.{PassesSeen}
use Rattle.umap_pager.specs.Shared.{SharedPager}
use Rattle.umap_pager.specs.WholePasses.{HasWholeTrips}

-- for each stripe, what is seen of its lanes, in order of region
abbrev pub rows_seen : {S : Type 0} → (S → LaneSeen) → List (ListSeen S) → List (List LaneSeen)
rows_seen seen stripes = map (λ row. map seen row.items) stripes

-- a sum, or the last number of 64 bits where it is above that
abbrev pub sum_or_last : ℕ → ℕ → ℕ
sum_or_last a b = min (a + b) (2 ^ 64 - 1)

abbrev pub both_counts : Counts → Counts → Counts
both_counts a b = record { fills = sum_or_last a.fills b.fills; writes = sum_or_last a.writes b.writes; evictions = sum_or_last a.evictions b.evictions; faults = sum_or_last a.faults b.faults }

-- how many entries of each kind these histories have, added up
abbrev pub counts_over : List (Closed Entry) → Counts
counts_over [] = no_counts
counts_over (c ∷ cs) = both_counts (counts_of c.history) (counts_over cs)

-- the lanes of all regions, as a stripe has them at home after this history
pub record AreAtHome (u : Setup) (h : History Entry) (row : List LaneSeen) : Type 0 where
  pub count : length row ≡ length u.shapes
  pub each : (r : ℕ) (lane : LaneSeen) → slice_get row r ≡ Some lane → HomeLane u h r lane

module _ {S J M : Type 0} (has_noted : J → History Entry → Type 0) (made_with : J → M) where
  -- a stripe ended: its lanes are home, its journal has noted its history, and that history is all that its first pass had seen
  pub record StripeEnded (lock : LockSeen (StripeBox S J)) (pass : PassSeen (StripeBox S J) Entry) (row : List LaneSeen) (journal : J) (closed : Closed Entry) : Type 0 where
    pub lanes : AreAtHome (locked_setup lock) pass.seen row
    pub noted : has_noted journal pass.seen
    pub made : made_with journal ≡ made_with lock.origin.noted.value.journal
    pub legal : IsLegal (locked_setup lock) pass.seen
    pub history : closed.history ≡ pass.seen
    pub ended : closed.ended ≡ pass.ended
    pub holds : closed.holds ≡ pass.holds
    pub mine : calls_of 0 closed.history ≡ pass.mine
    pub calls : HaveTheirCalls closed.history closed.ended
    pub parts : HaveTheirParts closed.history closed.ended
    pub most : MadeAtMost lock.holds closed.ended
    pub numbers : AreNumbered closed.ended
    pub owners : OwnersAreKnown closed.history closed.ended
    pub few : length closed.history ≤ lock.seats * lock.holds

  -- all stripes ended
  pub record PagerEnded (pager : SharedPager S J) (p : PassesSeen (StripeBox S J)) (rows : List (List LaneSeen)) (noted : List J) (histories : List (Closed Entry)) : Type 0 where
    pub lanes : length rows ≡ length pager.locks
    pub journals : length noted ≡ length pager.locks
    pub stripes : length histories ≡ length pager.locks
    pub each : (s : ℕ) (lock : LockSeen (StripeBox S J)) (pass : PassSeen (StripeBox S J) Entry) (row : List LaneSeen) (journal : J) (closed : Closed Entry) → slice_get pager.locks s ≡ Some lock → slice_get p.passes s ≡ Some pass
        → slice_get rows s ≡ Some row → slice_get noted s ≡ Some journal → slice_get histories s ≡ Some closed → StripeEnded lock pass row journal closed

module _ {T : Type 0} where
  -- the pass is a lock's first one, none is out that was split off it, and neither it nor one that was folded into it has left a
  -- trip open
  pub record MayClose (pass : PassSeen T Entry) : Type 0 where
    pub first : pass.number ≡ 0
    pub alone : pass.out ≡ 0
    pub whole : HasWholeTrips pass

  abbrev pub AllMayClose : PassesSeen T → Type 0
  AllMayClose p = (s : ℕ) (pass : PassSeen T Entry) → slice_get p.passes s ≡ Some pass → MayClose pass
