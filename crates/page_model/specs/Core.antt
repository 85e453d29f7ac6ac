-- What a stripe shows of itself: plain data, without frame numbers, capacities or the form of its tables.
use Rattle.std.specs.Prelude.{ℕ, ◌-◌, Bool, true, false, not, ◌&&◌, ◌||◌, nat_lt, nat_le, ◌==◌, if◌then◌else◌, List, length, map, filter, find, slice_get, slice_index, Option, Some, None, is_some, option_map}
use Rattle.std.specs.List.{list_any}
use Rattle.page_base.specs.declared.keys.Key.{Key}
use Rattle.page_base.specs.declared.keys.Why.{Why}
use Rattle.page_base.specs.declared.keys.Why.TheVariants.{Read}
use Rattle.page_base.specs.declared.keys.Raise.{Raise}
use Rattle.page_base.specs.KeyOrder.{is_past, least}
use Rattle.page_base.specs.Lanes.{LaneSeen}
use Rattle.page_base.specs.Pages.{same}
use Rattle.page_model.specs.declared.entry.HintAnswer.{HintAnswer}
use Rattle.page_model.specs.declared.seen.Counts.{Counts}
use Rattle.page_model.specs.declared.seen.Next.{Next}
use Rattle.page_model.specs.declared.seen.Pick.{Pick}
use Rattle.page_model.specs.Setups.{Setup, quota}
use Rattle.page_model.specs.Faults.{is_protected_why, is_waiting}
use Rattle.page_model.specs.Closings.{is_clear}
use Rattle.page_model.specs.Serving.{chosen, first_answer}

-- a resident page: its bits, and its bytes in their frame
pub record Resident : Type 0 where
  pub key : Key
  pub protected : Bool
  pub dirty : Bool
  pub bytes : List ℕ

-- Where a region's lane is: home, or out for a read or a write of one page, since the event at this place.
-- A read remembers why it is made.
pub data LanePlace : Type 0 where
  Home : (lane : LaneSeen) → LanePlace
  Reading : (key : Key) (at : ℕ) (why : Why) → LanePlace
  Writing : (key : Key) (at : ℕ) → LanePlace

pub record RegionSeen : Type 0 where
  pub place : LanePlace
  pub closing : Bool
  pub unmapped : Bool
  pub read_faults : List ℕ  -- by page: the number of its last failed read, 0 where there is none

pub record Core : Type 0 where
  pub setup : Setup  -- what the stripe was made with; no event changes it
  pub pages : List Resident  -- in order of filling, the oldest first
  pub queue : List Raise  -- the pending faults, the oldest first
  pub regions : List RegionSeen  -- by the region's number
  pub evicting : Bool
  pub counts : Counts
  pub events : ℕ  -- how many entries were made

-- ---- what its parts say

abbrev pub page_at : Core → Key → Option Resident
page_at c k = find (λ (r : Resident). same r.key k) c.pages

abbrev pub region_at : Core → ℕ → Option RegionSeen
region_at c r = slice_get c.regions r

abbrev pub is_present : Core → Key → Bool
is_present c k = is_some (page_at c k)

abbrev pub protects : Option Resident → Bool
protects None = false
protects (Some r) = r.protected

-- the page is present and write-protected
abbrev pub is_guarded : Core → Key → Bool
is_guarded c k = protects (page_at c k)

abbrev pub dirties : Option Resident → Bool
dirties None = false
dirties (Some r) = r.dirty

-- the page is present and dirty
abbrev pub is_dirty : Core → Key → Bool
is_dirty c k = dirties (page_at c k)

abbrev pub closes : Option RegionSeen → Bool
closes None = false
closes (Some g) = g.closing

abbrev pub is_closing : Core → ℕ → Bool
is_closing c r = closes (region_at c r)

abbrev pub unmaps : Option RegionSeen → Bool
unmaps None = false
unmaps (Some g) = g.unmapped

abbrev pub is_unmapped : Core → ℕ → Bool
is_unmapped c r = unmaps (region_at c r)

abbrev pub is_home_place : LanePlace → Bool
is_home_place (Home lane) = true
is_home_place place = false

abbrev pub is_read_place : LanePlace → Bool
is_read_place (Reading k at why) = true
is_read_place place = false

abbrev pub reads : LanePlace → Key → Bool
reads (Reading j at why) k = same j k
reads place k = false

abbrev pub writes : LanePlace → Key → Bool
writes (Writing j at) k = same j k
writes place k = false

abbrev pub place_passes : (LanePlace → Bool) → Option RegionSeen → Bool
place_passes test None = false
place_passes test (Some g) = test g.place

-- the region's lane is home
abbrev pub is_home : Core → ℕ → Bool
is_home c r = place_passes is_home_place (region_at c r)

-- the page is being read
abbrev pub is_reading : Core → Key → Bool
is_reading c k = place_passes (λ place. reads place k) (region_at c k.region)

-- the page is being written
abbrev pub is_writing : Core → Key → Bool
is_writing c k = place_passes (λ place. writes place k) (region_at c k.region)

abbrev pub is_pending : Core → Key → Bool
is_pending c k = is_waiting k c.queue

abbrev pub why_or_read : Option Raise → Why
why_or_read None = Read
why_or_read (Some p) = p.why

-- why the page's pending fault was raised
abbrev pub why_pending : Core → Key → Why
why_pending c k = why_or_read (find (λ (p : Raise). same p.key k) c.queue)

abbrev pub why_of_place : Option RegionSeen → Why
why_of_place None = Read
why_of_place (Some g) = why_of g.place where
  why_of : LanePlace → Why
  why_of (Reading k at why) = why
  why_of place = Read

-- why the read that is out in the page's region is made
abbrev pub why_out : Core → Key → Why
why_out c k = why_of_place (region_at c k.region)

-- ---- what its readers answer

abbrev pub resident : Core → ℕ
resident c = length c.pages

abbrev pub reads_out : Core → ℕ
reads_out c = length (filter (λ (g : RegionSeen). is_read_place g.place) c.regions)

-- the frames that the stripe has: so far its quota
abbrev pub frames_held : Core → ℕ
frames_held c = quota c.setup

abbrev pub free_frames : Core → ℕ
free_frames c = frames_held c - length c.pages - reads_out c

abbrev pub has_pressure : Core → Bool
has_pressure c = c.evicting || free_frames c == 0

abbrev pub is_stale : Core → Raise → Bool
is_stale c p = is_closing c p.key.region || is_protected_why p.why && not (is_present c p.key)

abbrev pub is_servable : Core → Raise → Bool
is_servable c p = if is_protected_why p.why then is_guarded c p.key else nat_lt 0 (free_frames c) && is_home c p.key.region

abbrev pub waits_for_room : Core → Raise → Bool
waits_for_room c p = not (is_protected_why p.why) && is_home c p.key.region

abbrev pub next : Core → Next
next c = chosen (find (is_stale c) c.queue) (find (is_servable c) c.queue) (list_any (waits_for_room c) c.queue)

abbrev pub can_leave : Core → Resident → Bool
can_leave c r = not (is_writing c r.key) && (not r.dirty || is_home c r.key.region)

abbrev pub pick_of : Resident → Pick
pick_of r = record { key = r.key; dirty = r.dirty }

abbrev pub pick : Core → Option Pick
pick c = option_map pick_of (find (can_leave c) c.pages)

abbrev pub oldest_of : Core → ℕ → Option Pick
oldest_of c r = option_map pick_of (find (λ (p : Resident). p.key.region == r) c.pages)

-- the least dirty page past a key, of all where none is given
abbrev pub next_dirty : Core → Option Key → Option Key
next_dirty c after = least (filter (λ (k : Key). is_dirty c k && is_past after k) (map (λ (r : Resident). r.key) c.pages))

abbrev pub is_full : Core → Bool
is_full c = nat_le c.setup.faults (length c.queue)

abbrev pub hint_answer : Core → Key → HintAnswer
hint_answer c k = first_answer (is_closing c k.region) (is_present c k) (is_pending c k || is_reading c k) (is_full c)

abbrev pub is_quiet : Core → ℕ → Bool
is_quiet c r = is_clear (map (λ (p : Resident). p.key) c.pages) c.queue r && is_home c r

abbrev pub fault_at : Option RegionSeen → ℕ → ℕ
fault_at None page = 0
fault_at (Some g) page = slice_index g.read_faults page

abbrev pub read_fault : Core → Key → ℕ
read_fault c k = fault_at (region_at c k.region) k.page
