-- How the parts of a stripe make the data that contracts see. Frames and their numbers are seen here alone.
use Rattle.std.specs.Prelude.{ℕ, Bool, false, List, [], map}
use Rattle.page_base.specs.declared.keys.Key.{Key}
use Rattle.page_base.specs.declared.keys.Raise.{Raise}
use Rattle.page_base.specs.Lanes.{LaneSeen}
use Rattle.soft_mmu.specs.declared.entry.PageEntry.{PageEntry}
use Rattle.soft_mmu.specs.declared.entry.PageEntry.TheVariants.{Absent, Present}
use Rattle.soft_mmu.specs.Entries.{table_entry}
use Rattle.page_buffer.specs.Frames.{bytes_of}
use Rattle.page_buffer.specs.Buffers.{BufferSeen, frame_of}
use Rattle.page_model.specs.declared.seen.Counts.{Counts}
use Rattle.page_model.specs.Core.{Resident, LanePlace, Home, Reading, Writing, RegionSeen, Core}
use Rattle.page_model.specs.Setups.{Setup}
use Rattle.stripe_core.specs.declared.region.Lane.{Lane}
use Rattle.stripe_core.specs.declared.region.Lane.TheVariants as lane
use Rattle.stripe_core.specs.declared.region.Region.{Region}

abbrev pub Table : Type 0
Table = List (List PageEntry)

-- a page with the bits of its entry and the bytes of its frame
abbrev pub page_in : BufferSeen → Key → PageEntry → Resident
page_in b k Absent = record { key = k; protected = false; dirty = false; bytes = [] }
page_in b k (Present protected dirty frame) = record { key = k; protected = protected; dirty = dirty; bytes = bytes_of (frame_of b frame) }

abbrev pub page_seen : Table → BufferSeen → Key → Resident
page_seen t b k = page_in b k (table_entry t k)

-- the resident pages, in order of filling
abbrev pub pages_seen : Table → BufferSeen → List Resident
pages_seen t b = map (page_seen t b) b.residents

abbrev pub place_of : {S : Type 0} → (S → LaneSeen) → Lane S → LanePlace
place_of seen (lane.Home s) = Home (seen s)
place_of seen (lane.Reading key at why frame) = Reading key at why
place_of seen (lane.Writing key at) = Writing key at

abbrev pub region_seen : {S : Type 0} → (S → LaneSeen) → Region S → RegionSeen
region_seen seen g = record { place = place_of seen g.lane; closing = g.closing; unmapped = g.unmapped; read_faults = g.read_faults.numbers }

abbrev pub core_of : {S : Type 0} → (S → LaneSeen) → Setup → Table → BufferSeen → List Raise → List (Region S) → Bool → Counts → ℕ → Core
core_of seen setup t b queue gs evicting counts events = record {
  setup = setup;
  pages = pages_seen t b;
  queue = queue;
  regions = map (region_seen seen) gs;
  evicting = evicting;
  counts = counts;
  events = events;
}
