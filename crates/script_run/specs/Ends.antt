-- What a run shows when it has ended, and what it hands back where it didn't begin.
use Rattle.std.specs.Prelude.{List}
use Rattle.histories.specs.Histories.{History}
use Rattle.page_base.specs.Lanes.{Origin, LaneSeen}
use Rattle.page_base.specs.ListSeen.{ListSeen}
use Rattle.page_model.specs.declared.entry.Entry.{Entry}
use Rattle.region_table.specs.Regions.{TableSeen}
use Rattle.serial_pager.specs.Pagers.{rows_of}
use Rattle.store_trait.specs.declared.mem_store.LaneSet.{LaneSet}
use Rattle.workload_text.specs.View.{lines_of}
use Rattle.workload_text.specs.declared.workload.Workload.{Workload}
use Rattle.script_run.specs.Contents.{origins_of}
use Rattle.script_run.specs.FitsJournals.{FitsJournals}
use Rattle.script_run.specs.FitsSerial.{EndSeen, FitsSerial, spread_of}
use Rattle.script_run.specs.declared.settings.Settings.{Settings}
use Rattle.script_run.specs.declared.serial_run.SerialEnd.{SerialEnd}
use Rattle.script_run.specs.declared.serial_run.RunBack.{RunBack}
use Rattle.script_run.specs.declared.serial_run.RunBack.TheVariants.{OutOfMemory}

-- an end, as its meaning sees it
abbrev pub end_of : {S : Type 0} → SerialEnd S → EndSeen
end_of e = record { text = e.text.items; faulted = e.faulted; loaded = e.loaded; sum = e.sum }

-- the lanes of a run that didn't begin
abbrev pub lanes_in : {S : Type 0} → RunBack S → LaneSet S
lanes_in (OutOfMemory lanes) = lanes

-- which lanes these are
abbrev pub origins_in : {S : Type 0} → (S → LaneSeen) → LaneSet S → List (List Origin)
origins_in seen lanes = origins_of (rows_of seen lanes)

-- A run of this workload over these lanes may end so: what its lines answer and leave, and what the journals have noted of it
abbrev pub FitsRun : {S J : Type 0} (seen : S → LaneSeen) (has_noted : J → History Entry → Type 0)
    → Settings → TableSeen → Workload → LaneSet S → SerialEnd S → (journals : ListSeen J) → Type 0
FitsRun seen has_noted settings table w lanes e journals =
    (run : FitsSerial (spread_of settings.layout) (lines_of w) (rows_of seen lanes) (rows_of seen e.lanes) (end_of e))
    × FitsJournals has_noted settings table (lines_of w) (rows_of seen lanes) (rows_of seen e.lanes) run.replies run.failed journals.items
