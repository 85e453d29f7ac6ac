-- What follows from a run's meaning with faults, as statements.
use Rattle.std.specs.Prelude.{◌≡◌, ℕ, ◌<◌, Bool, true, false, List, ◌++◌, length, map}
use Rattle.std.specs.List.{list_any}
use Rattle.histories.specs.Histories.{History, by}
use Rattle.page_base.specs.declared.keys.Key.{Key}
use Rattle.page_base.specs.Lanes.{LaneSeen}
use Rattle.page_base.specs.Pages.{same}
use Rattle.page_model.specs.declared.entry.Entry.{Entry}
use Rattle.page_model.specs.declared.entry.Entry.TheVariants.{Written}
use Rattle.page_model.specs.Bits.{is_dirty}
use Rattle.page_model.specs.Closings.{is_unmapped}
use Rattle.region_table.specs.Regions.{TableSeen}
use Rattle.serial_pager.specs.Writings.{is_failed_write, is_failed_write_of}
use Rattle.workload_text.specs.Line.{Line, TextLine}
use Rattle.page_base.specs.ListSeen.{ListSeen}
use Rattle.page_base.specs.declared.layout.Layout.{Layout}
use Rattle.store_trait.specs.declared.mem_lane.MemLane.{MemLane}
use Rattle.workload_text.specs.Grammar.{lines_in}
use Rattle.workload_text.specs.Accepted.{AllFit, regions_of}
use Rattle.workload_text.specs.Answers.{map_numbers}
use Rattle.workload_text.specs.View.{region, lines_of}
use Rattle.workload_text.specs.declared.workload.Workload.{Workload}
use Rattle.script_run.specs.Serial.{serial_text, serial_end}
use Rattle.script_run.specs.Contents.{contents_of, rows_in}
use Rattle.script_run.specs.Fits.{FitLanes}
use Rattle.script_run.specs.FitsSerial.{spread_of, region_is_told, EndSeen, FitsSerial}
use Rattle.script_run.specs.FitsJournals.{FitsJournals}
use Rattle.script_run.specs.RegionRules.{named_region}
use Rattle.script_run.specs.Replies.{Reply}
use Rattle.script_run.specs.Tables.{regions_seen}
use Rattle.script_run.specs.declared.settings.Settings.{Settings}
use Rattle.flat_lines.specs.FlatRegions.{bytes_at}
use Rattle.flat_lines.specs.Spreads.{Spread}

-- the lanes tell every region
abbrev pub AllTold : List (List LaneSeen) → Type 0
AllTold rows = (r : ℕ) → region_is_told rows r ≡ true

-- the text and the contents of the serial meaning
pub record IsSerial (lines : List Line) (rows ends : List (List LaneSeen)) (text : List ℕ) : Type 0 where
  pub text_is : text ≡ serial_text (contents_of rows) lines
  pub contents : (r : ℕ) → r < length (regions_of lines) → bytes_at (contents_of ends) r ≡ bytes_at (serial_end (contents_of rows) lines) r

-- where no line names a fault and the last unmapping didn't fail, the run is the serial one
abbrev pub WithoutFaults : Type 0
WithoutFaults =
    (t : Spread) (lines : List Line) (rows ends : List (List LaneSeen)) (e : EndSeen)
    → 0 < t.stripes → FitsSerial t lines rows ends e → AllTold rows → e.faulted ≡ false → IsSerial lines rows ends e.text

-- a run over lanes in memory answers the serial text
abbrev pub MemoryRunsAreSerial : Type 0
MemoryRunsAreSerial =
    (layout : Layout) (lines : List Line) (stripes ends : List (ListSeen MemLane)) (e : EndSeen)
    → FitLanes layout (regions_of lines) (rows_in stripes) → AllFit (regions_of lines) lines
    → FitsSerial (spread_of layout) lines (rows_in stripes) (rows_in ends) e
    → e.text ≡ serial_text (contents_of (rows_in stripes)) lines

-- the regions of a workload's lines are those of its `map` lines, by both views of them, and each stands on a line
pub record RegionsAreMaps : Type 0 where
  pub regions : (w : Workload) → regions_of (lines_of w) ≡ map region w.maps.items
  pub seen : (w : Workload) → regions_seen (lines_of w) ≡ map named_region w.maps.items
  pub numbered : (n : ℕ) (texts : List TextLine) → length (map_numbers n texts) ≡ length (regions_seen (lines_in texts))

-- the entry is the good end of a write of this page
abbrev pub is_written : Key → Entry → Bool
is_written k (Written j at bytes) = same j k
is_written k e = false

-- no last write of the region failed, in whatever stripe
abbrev pub NoneFailed : (region : ℕ) → (last : ℕ → List Entry) → Type 0
NoneFailed r last = (n : ℕ) → list_any (is_failed_write_of r) (last n) ≡ false

-- A region of which no last write failed is unmapped in the end, in every stripe, and what the lines left dirty of it was
-- written; and where the last unmapping failed, a write failed in it. So what the journals have noted refuses a run that ends
-- without, whatever its lanes hold.
pub record LastUnmaps {J : Type 0} (has_noted : J → History Entry → Type 0) : Type 0 where
  pub unmapped : (c : Settings) (table : TableSeen) (lines : List Line) (rows ends : List (List LaneSeen)) (replies : List Reply) (failed : Bool) (journals : List J) (s r : ℕ)
      → (f : FitsJournals has_noted c table lines rows ends replies failed journals)
      → s < c.layout.stripes → r < length table.regions → NoneFailed r f.last
      → is_unmapped (by 0 (f.last s ++ f.by_lines s)) r ≡ true
  pub written : (c : Settings) (table : TableSeen) (lines : List Line) (rows ends : List (List LaneSeen)) (replies : List Reply) (failed : Bool) (journals : List J) (s : ℕ) (k : Key)
      → (f : FitsJournals has_noted c table lines rows ends replies failed journals)
      → s < c.layout.stripes → k.region < length table.regions → is_dirty (by 0 (f.by_lines s)) k ≡ true → NoneFailed k.region f.last
      → list_any (is_written k) (f.last s) ≡ true
  pub failed : (c : Settings) (table : TableSeen) (lines : List Line) (rows ends : List (List LaneSeen)) (replies : List Reply) (journals : List J)
      → (f : FitsJournals has_noted c table lines rows ends replies true journals)
      → (s : ℕ) × (s < c.layout.stripes) × (list_any is_failed_write (f.last s) ≡ true)
