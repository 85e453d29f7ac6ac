-- The room that replies take in the text, a fault in place of any of them.
use Rattle.std.specs.Prelude.{ℕ, ◌+◌, ◌*◌, ◌<◌, max, List, [], ◌∷◌, length}
use Rattle.workload_text.specs.Line.{Line, map_line, script_line, load_line}
use Rattle.workload_text.specs.Grammar.{Region, name_at}
use Rattle.workload_text.specs.Accepted.{regions_of}
use Rattle.workload_text.specs.View.{lines_of}
use Rattle.workload_text.specs.declared.workload.Workload.{Workload}
use Rattle.serial_pager.specs.declared.fault.PageFault.{PageFault}
use Rattle.serial_pager.specs.declared.fault.UnmapError.{UnmapError}
use Rattle.serial_pager.specs.declared.fault.UnmapError.TheVariants as unmap_error
use Rattle.script_run.specs.Replies.{Reply, unmapped, fault, fault_reply}
use Rattle.script_run.specs.declared.access.AccessEnd.{AccessEnd}
use Rattle.script_run.specs.declared.access.AccessEnd.TheVariants.{Unmapped, Fault}
use Rattle.script_run.specs.declared.rooms.TheConstants.{FAULT_ROOM, SCRIPT_ROOM, LOAD_ROOM}

abbrev pub longest_name : List Region → ℕ
longest_name [] = 0
longest_name (g ∷ gs) = max (length g.name) (longest_name gs)

-- the most that a line which names a fault takes
abbrev pub fault_room : List Region → ℕ
fault_room gs = longest_name gs + FAULT_ROOM

abbrev pub room : List Region → Line → ℕ
room gs (map_line name kept size writable) = 0
room gs (script_line name) = length name + SCRIPT_ROOM
room gs (load_line r off len) = max (2 * len + LOAD_ROOM) (fault_room gs)
room gs l = fault_room gs

abbrev pub rooms : List Region → List Line → ℕ
rooms gs [] = 0
rooms gs (l ∷ ls) = room gs l + rooms gs ls

-- what tells a fault of a workload's region
abbrev pub fault_of : Workload → PageFault → List ℕ
fault_of w f = fault_reply (name_at (regions_of (lines_of w)) f.key.region) f.key.page f.faults

-- the reply to an access of a range that ended so, behind `done` of its bytes
abbrev pub end_reply : (done : ℕ) → AccessEnd → Reply
end_reply done Unmapped = unmapped done
end_reply done (Fault f) = fault f.key f.faults done

-- a fault that ended an access names a region that is there
abbrev pub IsKnownEnd : (regions : ℕ) → AccessEnd → Type 0
IsKnownEnd regions Unmapped = Unit {0}
IsKnownEnd regions (Fault f) = f.key.region < regions

-- the reply to an unmapping that ended so
abbrev pub unmap_reply : UnmapError → Reply
unmap_reply unmap_error.Unmapped = unmapped 0
unmap_reply (unmap_error.Fault f) = fault f.key f.faults 0

-- a fault that ended an unmapping names a region that is there
abbrev pub IsKnownError : (regions : ℕ) → UnmapError → Type 0
IsKnownError regions unmap_error.Unmapped = Unit {0}
IsKnownError regions (unmap_error.Fault f) = f.key.region < regions
