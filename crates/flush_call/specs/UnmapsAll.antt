-- What the unmapping of all regions did.
use Rattle.std.specs.Prelude.{ℕ, zero, suc, ◌<◌, ◌≡◌, Bool, true, false, length, slice_get, Option, Some, None, Result, Ok, Err, OnOk, IfErr}
use Rattle.page_base.specs.declared.keys.Key.{Key}
use Rattle.page_model.specs.declared.entry.Entry.{Entry}
use Rattle.page_model.specs.Closings.{is_unmapped}
use Rattle.turn_lock.specs.Seen.{LockSeen, PassSeen}
use Rattle.locked_stripe.specs.declared.answers.Access.{Access}
use Rattle.locked_stripe.specs.declared.answers.Access.TheVariants as access
use Rattle.locked_stripe.specs.declared.stripe_box.StripeBox.{StripeBox}
use Rattle.umap_pager.specs.Passes.{PassesSeen}
use Rattle.umap_pager.specs.Shared.{SharedPager}
use Rattle.flush_call.specs.Unmaps.{NewlyUnmapped, UnmapStops}

-- a pass had made all its holds
abbrev pub is_spent : Result (Unit {0}) Access → Bool
is_spent (Err access.PassSpent) = true
is_spent answer = false

-- the first fault of some answers, and of the one behind them
abbrev pub first_fault : Option (Key × ℕ) → Result (Unit {0}) Access → Option (Key × ℕ)
first_fault (Some fault) answer = Some fault
first_fault None (Err (access.StoreFault k n)) = Some (k, n)
first_fault None answer = None

module _ {S J : Type 0} where
  -- the unmapping of one region answered so
  pub record UnmapsOne (pager : SharedPager S J) (r : ℕ) (old new : PassesSeen (StripeBox S J)) (answer : Result (Unit {0}) Access) : Type 0 where
    pub ok : OnOk answer (NewlyUnmapped pager r old new)
    pub err : IfErr answer (UnmapStops pager r old new)
    pub left : is_spent answer ≡ false

  -- the first n regions were unmapped, in order of number, one after the other, and this was the first fault
  abbrev pub UnmapsRegions : SharedPager S J → (n : ℕ) → (old new : PassesSeen (StripeBox S J)) → (first : Option (Key × ℕ)) → Type 0
  UnmapsRegions pager zero old new first = (new ≡ old) × (first ≡ None)
  UnmapsRegions pager (suc n) old new first =
      (mid : PassesSeen (StripeBox S J)) × (before : Option (Key × ℕ)) × (answer : Result (Unit {0}) Access)
      × UnmapsRegions pager n old mid before × UnmapsOne pager n mid new answer × (first ≡ first_fault before answer)

  -- the first n regions are unmapped in every stripe
  abbrev pub AllUnmapped : (n : ℕ) → SharedPager S J → PassesSeen (StripeBox S J) → Type 0
  AllUnmapped n pager p =
      (r s : ℕ) (lock : LockSeen (StripeBox S J)) (pass : PassSeen (StripeBox S J) Entry)
      → r < n → slice_get pager.locks s ≡ Some lock → slice_get p.passes s ≡ Some pass → is_unmapped pass.seen r ≡ true

  -- the unmapping of one region, behind those of the regions before it, ended since a pass had made its holds
  pub record SpentAtOne (pager : SharedPager S J) (old new : PassesSeen (StripeBox S J)) : Type 0 where
    pub region : ℕ
    pub below : region < length pager.table.regions
    pub mid : PassesSeen (StripeBox S J)
    pub first : Option (Key × ℕ)
    pub before : UnmapsRegions pager region old mid first
    pub stops : UnmapStops pager region mid new access.PassSpent

  abbrev pub EndsUnmapping : SharedPager S J → (old new : PassesSeen (StripeBox S J)) → Access → Type 0
  EndsUnmapping pager old new access.PassSpent = SpentAtOne pager old new
  EndsUnmapping pager old new (access.StoreFault k n) = UnmapsRegions pager (length pager.table.regions) old new (Some (k, n))
  EndsUnmapping pager old new why = ⊥
