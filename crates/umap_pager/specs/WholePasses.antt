-- Passes whose calls have left no trip open.
use Rattle.std.specs.Prelude.{ℕ, ◌≡◌, true, List, slice_get, Some}
use Rattle.page_model.specs.declared.entry.Entry.{Entry}
use Rattle.turn_lock.specs.declared.view.Ended.{Ended}
use Rattle.turn_lock.specs.Seen.{PassSeen}
use Rattle.locked_stripe.specs.WholeTrips.{trips_are_whole}
use Rattle.umap_pager.specs.Passes.{PassesSeen}

module _ {T : Type 0} where
  -- a pass has made whole trips alone, and so has each that was folded into it
  pub record HasWholeTrips (pass : PassSeen T Entry) : Type 0 where
    pub mine : trips_are_whole pass.mine ≡ true
    pub ended : (i : ℕ) (e : Ended Entry) → slice_get pass.ended i ≡ Some e → trips_are_whole e.mine ≡ true

  abbrev pub HaveWholeTrips : PassesSeen T → Type 0
  HaveWholeTrips p = (s : ℕ) (pass : PassSeen T Entry) → slice_get p.passes s ≡ Some pass → HasWholeTrips pass
