-- What each event makes of a core: one pure step per event, with the event's name.
use Rattle.std.specs.Prelude.{ℕ, ◌+◌, true, false, not, ◌&&◌, ◌||◌, nat_lt, nat_le, if◌then◌else◌, List, [], ◌∷◌, ◌++◌, length, map, filter, slice_get, slice_set, replicate, Option, Some, None}
use Rattle.page_base.specs.declared.keys.Key.{Key}
use Rattle.page_base.specs.declared.keys.RegionShape.{RegionShape}
use Rattle.page_base.specs.declared.keys.Why.{Why}
use Rattle.page_base.specs.declared.keys.Why.TheVariants.{Ahead}
use Rattle.page_base.specs.Lanes.{LaneSeen}
use Rattle.page_base.specs.ListSeen.{spliced}
use Rattle.page_base.specs.Pages.{same, on_mark, off_mark}
use Rattle.page_model.specs.declared.entry.HintAnswer.{HintAnswer}
use Rattle.page_model.specs.declared.entry.HintAnswer.TheVariants as answer
use Rattle.page_model.specs.Setups.{Setup}
use Rattle.page_model.specs.Faults.{is_write, served}
use Rattle.page_model.specs.Tallies.{no_counts}
use Rattle.page_model.specs.Core.{Resident, LanePlace, Home, Reading, Writing, RegionSeen, Core, frames_held, why_pending, why_out, hint_answer}

-- a region that nothing was done to, with its lane home
abbrev pub fresh_region : RegionShape → LaneSeen → RegionSeen
fresh_region shape lane = record { place = Home lane; closing = false; unmapped = false; read_faults = replicate shape.pages 0 }

abbrev pub fresh_regions : List RegionShape → List LaneSeen → List RegionSeen
fresh_regions [] lanes = []
fresh_regions (shape ∷ shapes) [] = []
fresh_regions (shape ∷ shapes) (lane ∷ lanes) = fresh_region shape lane ∷ fresh_regions shapes lanes

-- a stripe that has just been made
abbrev pub fresh : Setup → Core
fresh s =
    record {
      setup = s;
      pages = [];
      queue = [];
      regions = fresh_regions s.shapes s.lanes;
      evicting = false;
      counts = no_counts;
      events = 0;
    }

-- ---- the kinds of change

-- this change to page k, and none to the others
abbrev pub on_page : Key → (Resident → Resident) → List Resident → List Resident
on_page k change = map (λ (r : Resident). if same r.key k then change r else r)

abbrev pub put_back : List RegionSeen → ℕ → (RegionSeen → RegionSeen) → Option RegionSeen → List RegionSeen
put_back gs r change None = gs
put_back gs r change (Some g) = slice_set gs r (change g)

-- this change to region r, and none to the others
abbrev pub on_region : ℕ → (RegionSeen → RegionSeen) → List RegionSeen → List RegionSeen
on_region r change gs = put_back gs r change (slice_get gs r)

-- the region's lane is there now
abbrev pub placed : LanePlace → RegionSeen → RegionSeen
placed place g = record g { place = place }

-- ---- the events

abbrev pub load : Core → Core
load c = record c { events = c.events + 1 }

abbrev pub save : Core → Key → ℕ → List ℕ → Core
save c k place bytes =
    record c {
      pages = on_page k (λ r. record r { bytes = spliced r.bytes place bytes }) c.pages;
      events = c.events + 1;
    }

abbrev pub raise : Core → Key → Why → Core
raise c k why = record c { queue = c.queue ++ record { key = k; why = why } ∷ []; events = c.events + 1 }

abbrev pub start_read : Core → Key → Core
start_read c k =
    record c {
      queue = served k c.queue;
      regions = on_region k.region (placed (Reading k c.events (why_pending c k))) c.regions;
      events = c.events + 1;
    }

-- a page as it is filled: unprotected and dirty where it was raised for writing
abbrev pub filled_page : Key → Why → List ℕ → Resident
filled_page k why bytes = record { key = k; protected = not (is_write why); dirty = is_write why; bytes = bytes }

abbrev pub filled : Core → Key → List ℕ → LaneSeen → Core
filled c k bytes lane =
    record c {
      pages = c.pages ++ filled_page k (why_out c k) bytes ∷ [];
      regions = on_region k.region (placed (Home lane)) c.regions;
      evicting = nat_le (on_mark (frames_held c) c.setup.high) (length c.pages + 1) || c.evicting;
      counts = record c.counts { fills = c.counts.fills + 1 };
      events = c.events + 1;
    }

-- the lane is home, and the page's last failed read has this number
abbrev pub read_missed : Key → LaneSeen → ℕ → RegionSeen → RegionSeen
read_missed k lane n g = record g { place = Home lane; read_faults = slice_set g.read_faults k.page n }

abbrev pub read_failed : Core → Key → LaneSeen → ℕ → Core
read_failed c k lane n =
    record c {
      regions = on_region k.region (read_missed k lane n) c.regions;
      counts = record c.counts { faults = c.counts.faults + 1 };
      events = c.events + 1;
    }

abbrev pub open_page : Core → Key → Core
open_page c k =
    record c {
      pages = on_page k (λ r. record r { protected = false; dirty = true }) c.pages;
      queue = served k c.queue;
      events = c.events + 1;
    }

abbrev pub drop_raise : Core → Key → Core
drop_raise c k = record c { queue = served k c.queue; events = c.events + 1 }

abbrev pub start_write : Core → Key → Core
start_write c k =
    record c {
      pages = on_page k (λ r. record r { protected = true }) c.pages;
      regions = on_region k.region (placed (Writing k c.events)) c.regions;
      events = c.events + 1;
    }

-- a good write leaves the page clean exactly where it is still protected, and so wasn't opened since the write started
abbrev pub written : Core → Key → LaneSeen → Core
written c k lane =
    record c {
      pages = on_page k (λ r. record r { dirty = r.dirty && not r.protected }) c.pages;
      regions = on_region k.region (placed (Home lane)) c.regions;
      counts = record c.counts { writes = c.counts.writes + 1 };
      events = c.events + 1;
    }

abbrev pub write_failed : Core → Key → LaneSeen → Core
write_failed c k lane =
    record c {
      regions = on_region k.region (placed (Home lane)) c.regions;
      counts = record c.counts { faults = c.counts.faults + 1 };
      events = c.events + 1;
    }

abbrev pub without_page : Key → List Resident → List Resident
without_page k = filter (λ (r : Resident). not (same r.key k))

abbrev pub evict : Core → Key → Core
evict c k =
    record c {
      pages = without_page k c.pages;
      evicting = nat_lt (off_mark (frames_held c) c.setup.low) (length (without_page k c.pages)) && c.evicting;
      counts = record c.counts { evictions = c.counts.evictions + 1 };
      events = c.events + 1;
    }

-- a hint that is answered Raised raises a read ahead
abbrev pub hinted : Core → Key → HintAnswer → Core
hinted c k answer.Raised = raise c k Ahead
hinted c k a = load c

abbrev pub hint : Core → Key → Core
hint c k = hinted c k (hint_answer c k)

abbrev pub closing : Core → ℕ → Core
closing c r = record c { regions = on_region r (λ g. record g { closing = true }) c.regions; events = c.events + 1 }

abbrev pub unmapped : Core → ℕ → Core
unmapped c r = record c { regions = on_region r (λ g. record g { unmapped = true }) c.regions; events = c.events + 1 }
