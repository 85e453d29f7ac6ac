-- What the journals of a serial run have noted: for each stripe the history of all that its lines made it do, and of the last
-- unmapping.
use Rattle.std.specs.Prelude.{◌≡◌, ℕ, ◌<◌, Bool, List, [], ◌++◌, length, slice_get, slice_index_or, Some}
use Rattle.std.specs.List.{list_any}
use Rattle.histories.specs.Histories.{History, by}
use Rattle.page_base.specs.declared.keys.RegionShape.{RegionShape}
use Rattle.page_base.specs.Lanes.{LaneSeen}
use Rattle.page_model.specs.declared.entry.Entry.{Entry}
use Rattle.page_model.specs.Setups.{Setup}
use Rattle.page_model.specs.Legal.{IsLegal}
use Rattle.page_model.specs.Core.{Home}
use Rattle.page_model.specs.Stands.{PlaceStands}
use Rattle.region_table.specs.Regions.{TableSeen, shapes_of}
use Rattle.workload_text.specs.Line.{Line}
use Rattle.script_run.specs.Replies.{Reply, is_fault_reply}
use Rattle.script_run.specs.FitsSerial.{spread_of, lane_at}
use Rattle.script_run.specs.LineEntries.{AllMake, unmap_lines}
use Rattle.script_run.specs.declared.settings.Settings.{Settings}

-- what stripe s of a run is made with: the settings, the regions, and its lanes as they are handed in
abbrev pub setup_at : Settings → List RegionShape → List (List LaneSeen) → ℕ → Setup
setup_at c shapes rows s = record {
  page_size = c.layout.page_size;
  stripes = c.layout.stripes;
  frames = c.layout.frames;
  number = s;
  faults = c.faults;
  high = c.high;
  low = c.low;
  shapes = shapes;
  lanes = slice_index_or rows s [];
}

-- The lanes were `rows` and are `ends`; the lines were answered with these replies, and `failed` says whether the last unmapping
-- failed. It unmaps the regions in order of number, each as a line would that is answered to nobody. All entries are of owner 0.
pub record FitsJournals {J : Type 0} (has_noted : J → History Entry → Type 0) (c : Settings) (table : TableSeen) (lines : List Line) (rows ends : List (List LaneSeen)) (replies : List Reply) (failed : Bool) (journals : List J) : Type 0 where
  pub by_lines : ℕ → List Entry  -- what the lines made, by the stripe's number
  pub last : ℕ → List Entry  -- what the last unmapping made
  pub last_replies : List Reply  -- how it came out, region by region
  pub lines_make : AllMake (spread_of c.layout) lines replies (λ s. []) by_lines
  pub unmap : AllMake (spread_of c.layout) (unmap_lines (length table.regions)) last_replies by_lines (λ s. last s ++ by_lines s)
  pub failed_is : failed ≡ list_any is_fault_reply last_replies
  pub noted : (s : ℕ) (journal : J) → slice_get journals s ≡ Some journal → has_noted journal (by 0 (last s ++ by_lines s))
  pub legal : (s : ℕ) → s < c.layout.stripes → IsLegal (setup_at c (shapes_of table) rows s) (by 0 (last s ++ by_lines s))
  pub home : (s r : ℕ) → s < c.layout.stripes → r < length table.regions
      → PlaceStands (setup_at c (shapes_of table) rows s) (by 0 (last s ++ by_lines s)) r (Home (lane_at ends s r))
