-- What a serial run shows follows from what its journals have noted, from its replies alone, and from the lanes that come back.
use Rattle.std.specs.Prelude.{◌≡◌, ℕ, ◌<◌, ◌||◌, Bool, true, List, length, sum}
use Rattle.std.specs.List.{flat_map, list_any}
use Rattle.histories.specs.Histories.{History}
use Rattle.page_base.specs.Lanes.{LaneSeen}
use Rattle.page_model.specs.declared.entry.Entry.{Entry}
use Rattle.page_model.specs.Setups.{Fits}
use Rattle.region_table.specs.Regions.{TableSeen, shapes_of}
use Rattle.workload_text.specs.Line.{Line}
use Rattle.workload_text.specs.Accepted.{AllFit, regions_of}
use Rattle.workload_text.specs.Built.{is_built}
use Rattle.script_run.specs.Contents.{origins_of}
use Rattle.script_run.specs.Fits.{FitLanes}
use Rattle.script_run.specs.FitsJournals.{setup_at, FitsJournals}
use Rattle.script_run.specs.FitsSerial.{spread_of, EndSeen, FitsSerial}
use Rattle.script_run.specs.Replies.{Reply, replies_text, is_fault_reply, bytes_shown}
use Rattle.script_run.specs.Tables.{table_of}
use Rattle.script_run.specs.declared.settings.Settings.{Settings}

-- what a run shows of its replies, and of its last unmapping, which failed or didn't
pub record IsShown (lines : List Line) (replies : List Reply) (failed : Bool) (e : EndSeen) : Type 0 where
  pub text_is : e.text ≡ replies_text (regions_of lines) replies
  pub flag : e.faulted ≡ (list_any is_fault_reply replies || failed)
  pub loaded_is : e.loaded ≡ length (flat_map bytes_shown replies)
  pub sum_is : e.sum ≡ sum (flat_map bytes_shown replies)

-- what a run is given, and that the lanes come back as the same lanes
pub record IsGiven (c : Settings) (table : TableSeen) (lines : List Line) (rows ends : List (List LaneSeen)) : Type 0 where
  pub built : is_built lines ≡ true
  pub fit : AllFit (regions_of lines) lines
  pub table_is : table ≡ table_of c.layout.page_size lines
  pub lanes : FitLanes c.layout (regions_of lines) rows
  pub setups : (s : ℕ) → s < c.layout.stripes → Fits (setup_at c (shapes_of table) rows s)
  pub origins : origins_of ends ≡ origins_of rows

-- a run may end so, with these replies and such a last unmapping
abbrev pub FitsSo : Settings → List Line → (rows ends : List (List LaneSeen)) → List Reply → (failed : Bool) → EndSeen → Type 0
FitsSo c lines rows ends replies failed e =
    (run : FitsSerial (spread_of c.layout) lines rows ends e) × (run.replies ≡ replies) × (run.failed ≡ failed)

-- so it is by what the journals have noted
abbrev pub FromJournals : {J : Type 0} → (has_noted : J → History Entry → Type 0) → Type 0
FromJournals {J} has_noted =
    (c : Settings) (table : TableSeen) (lines : List Line) (rows ends : List (List LaneSeen)) (replies : List Reply) (failed : Bool) (journals : List J) (e : EndSeen)
    → IsGiven c table lines rows ends → IsShown lines replies failed e
    → FitsJournals has_noted c table lines rows ends replies failed journals
    → FitsSo c lines rows ends replies failed e
