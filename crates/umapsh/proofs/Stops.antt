-- Why no run began, and that no part is out then.
use Rattle.std.proofs.Common.{◌≡◌, ℕ, List, [], Option, Some, None, ap, ◌∙◌}
use Rattle.std.specs.Option.{IfSome}
use Rattle.file_store.specs.Parts.{WhereTold}
use Rattle.file_store.specs.Shelves.{Shelf, FolderSeen}
use Rattle.file_store.specs.declared.folder.FolderFault.{FolderFault}
use Rattle.file_store.specs.declared.folder.FolderFault.TheVariants.{Missing, TooShort, Failed, OutOfMemory}
use Rattle.workload_text.specs.Line.{Line}
use Rattle.region_lanes.specs.Regions.{StopsRightly, StopCause, HasSame, IsAsBefore, NoPartIsOut}
use Rattle.region_lanes.specs.declared.open.LaneStop.{LaneStop}
use Rattle.umapsh.specs.InsideTop.{fault_status, stop_status, OpenStop}

by_fault : (lines : List Line) (f0 f1 : FolderSeen) (region : ℕ) (fault : FolderFault) → StopsRightly f0 lines (record { region = region; fault = fault }) → StopCause f0.count f1.count fault → OpenStop (fault_status region fault) lines f0 f1
by_fault lines f0 f1 region Missing stops cause = (stops, tt, cause)
by_fault lines f0 f1 region (TooShort have need) stops cause = (stops, tt, cause)
by_fault lines f0 f1 region (Failed faults) stops cause = (stops, tt, cause)
by_fault lines f0 f1 region OutOfMemory stops cause = tt

pub stop_says : (lines : List Line) (f0 f1 : FolderSeen) (stop : LaneStop) → StopsRightly f0 lines stop → StopCause f0.count f1.count stop.fault → OpenStop (stop_status stop) lines f0 f1
stop_says lines f0 f1 stop stops cause = by_fault lines f0 f1 stop.region stop.fault stops cause

none_by : (a b : Option Shelf) → WhereTold HasSame a b → IfSome a (λ s. s.out ≡ []) → IfSome b (λ s. s.out ≡ [])
none_by None None h n = tt
none_by None (Some b) h n = absurd h
none_by (Some a) None h n = absurd h
none_by (Some a) (Some b) h n = h.out ∙ n

-- no part is out where nothing has changed
pub none_stays : (f0 f1 : FolderSeen) → IsAsBefore f0 f1 → NoPartIsOut f0 → NoPartIsOut f1
none_stays f0 f1 same none = none_by f0.told f1.told same none
