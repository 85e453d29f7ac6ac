-- Lanes that tell the bytes of a region, page by page.
use Rattle.std.specs.Prelude.{◌≡◌, ℕ, ◌+◌, ◌/◌, ◌%◌, ◌<◌, true, List, length, Some}
use Rattle.page_base.specs.Lanes.{LaneSeen, Rose, told_at}
use Rattle.page_base.specs.declared.layout.Layout.{Layout}
use Rattle.store_trait.specs.Memory.{page_bytes}
use Rattle.store_trait.specs.declared.mem_store.LaneSet.{LaneSet}
use Rattle.serial_pager.specs.Pagers.{rows_of}
use Rattle.workload_text.specs.Line.{Line}
use Rattle.workload_text.specs.Grammar.{Region, size_at}
use Rattle.workload_text.specs.Accepted.{AllFit, regions_of}
use Rattle.workload_text.specs.View.{lines_of}
use Rattle.workload_text.specs.declared.workload.Workload.{Workload}
use Rattle.flat_lines.specs.FlatRegions.{bytes_at}
use Rattle.script_run.specs.Contents.{contents_of}
use Rattle.script_run.specs.Fits.{FitLanes}
use Rattle.flat_lines.specs.Spreads.{Spread}
use Rattle.script_run.specs.FitsSerial.{spread_of, lane_at, region_is_told, EndSeen, FitsSerial}
use Rattle.script_run.specs.declared.settings.Settings.{Settings}
use Rattle.script_run.specs.declared.serial_run.SerialEnd.{SerialEnd}

-- each page of these bytes is told by the lane that has it
abbrev pub TellsBytes : Spread → List (List LaneSeen) → (region : ℕ) → (bytes : List ℕ) → Type 0
TellsBytes t rows region bytes =
    (p : ℕ) → p < length bytes / t.page_size → told_at (lane_at rows ((region + p) % t.stripes) region).told p ≡ Some (page_bytes t.page_size bytes p)

-- the lanes tell what they hold of a region, and that is as many bytes as it has
pub record TellsWhole (t : Spread) (regions : List Region) (rows : List (List LaneSeen)) (region : ℕ) : Type 0 where
  pub size : length (bytes_at (contents_of rows) region) ≡ size_at regions region
  pub pages : TellsBytes t rows region (bytes_at (contents_of rows) region)

-- the lanes were `rows` and are `ends`: a region that was told is told still
abbrev pub StayTold : Spread → List Region → (rows ends : List (List LaneSeen)) → Type 0
StayTold t regions rows ends = (r : ℕ) → r < length regions → region_is_told rows r ≡ true → TellsWhole t regions ends r

-- the same, of the lanes that a run of a workload was handed and hands back
abbrev pub EndsTold : {S : Type 0} → (S → LaneSeen) → Settings → Workload → LaneSet S → SerialEnd S → Type 0
EndsTold seen settings w lanes e =
    StayTold (spread_of settings.layout) (regions_of (lines_of w)) (rows_of seen lanes) (rows_of seen e.lanes)

-- lanes that fit and tell these bytes of a region, as many as it has, hold them
abbrev pub ToldIsHeld : Type 0
ToldIsHeld =
    (layout : Layout) (regions : List Region) (rows : List (List LaneSeen)) (r : ℕ) (bytes : List ℕ)
    → FitLanes layout regions rows → r < length regions → length bytes ≡ size_at regions r → TellsBytes (spread_of layout) rows r bytes
    → (bytes_at (contents_of rows) r ≡ bytes) × (region_is_told rows r ≡ true)

-- where a line names a fault or the last unmapping failed, the count of some lane rose
abbrev pub FlagIsCounted : Type 0
FlagIsCounted =
    (t : Spread) (lines : List Line) (rows ends : List (List LaneSeen)) (e : EndSeen)
    → 0 < t.stripes → AllFit (regions_of lines) lines → FitsSerial t lines rows ends e → e.faulted ≡ true
    → (s : ℕ) × (r : ℕ) × (s < t.stripes) × (r < length (regions_of lines)) × Rose (lane_at rows s r).count (lane_at ends s r).count
