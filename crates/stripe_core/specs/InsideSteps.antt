-- The parts of a step: what a private method leaves of the data that contracts see.
use Rattle.std.specs.Prelude.{ℕ, ◌+◌, ◌<◌, ◌&&◌, true, not, nat_lt, length, List, slice_get, slice_set, Some, ◌≡◌}
use Rattle.page_base.specs.declared.keys.Key.{Key}
use Rattle.page_base.specs.Pages.{off_mark}
use Rattle.page_model.specs.Core.{Core, Resident, LanePlace, frames_held}
use Rattle.page_model.specs.Steps.{on_page, on_region, placed}
use Rattle.stripe_core.specs.declared.region.Lane.{Lane}
use Rattle.stripe_core.specs.declared.region.Region.{Region}
use Rattle.stripe_core.specs.InsideMade.{IsFailed}
use Rattle.stripe_core.specs.InsideReadFaults.{in_share}

-- the page protected
abbrev pub page_protected : Core → Key → Core
page_protected c k = record c { pages = on_page k (λ (r : Resident). record r { protected = true }) c.pages }

-- the page clean, where it is still protected
abbrev pub page_cleaned : Core → Key → Core
page_cleaned c k = record c { pages = on_page k (λ (r : Resident). record r { dirty = r.dirty && not r.protected }) c.pages }

-- the region's lane at this place
abbrev pub lane_placed : Core → ℕ → LanePlace → Core
lane_placed c r place = record c { regions = on_region r (placed place) c.regions }

-- one entry more
abbrev pub with_event : Core → Core
with_event c = record c { events = c.events + 1 }

-- one entry more, a write that ended well
abbrev pub write_counted : Core → Core
write_counted c = record c { counts = record c.counts { writes = c.counts.writes + 1 }; events = c.events + 1 }

-- one entry more, a write that failed
abbrev pub fault_counted : Core → Core
fault_counted c = record c { counts = record c.counts { faults = c.counts.faults + 1 }; events = c.events + 1 }

-- one entry more, an eviction: at or below the low mark the stripe evicts no longer
abbrev pub eviction_counted : Core → Core
eviction_counted c =
    record c {
      evicting = nat_lt (off_mark (frames_held c) c.setup.low) (length c.pages) && c.evicting;
      counts = record c.counts { evictions = c.counts.evictions + 1 };
      events = c.events + 1;
    }

-- ---- the regions as they are kept

-- the page is the stripe's, and has its place among the region's read faults
abbrev pub HasReadFault : {S : Type 0} → List (Region S) → Key → Type 0
HasReadFault {S} gs k = (g : Region S) → slice_get gs k.region ≡ Some g → (k.page < length g.read_faults.numbers) × (in_share g.read_faults.share k.page ≡ true)

-- the region's lane is home, with this number of a failed read of the page
abbrev pub FailsAt : {S : Type 0} → List (Region S) → Key → S → ℕ → List (Region S) → Type 0
FailsAt {S} old k lane faults new =
    (g : Region S) → slice_get old k.region ≡ Some g → (x : Region S) × IsFailed g lane k.page faults x × (new ≡ slice_set old k.region x)

-- the region with this in the place of its lane
abbrev pub Swaps : {S : Type 0} → List (Region S) → ℕ → Lane S → List (Region S) → Type 0
Swaps {S} old r lane new = (g : Region S) → slice_get old r ≡ Some g → new ≡ slice_set old r (record g { lane = lane })
