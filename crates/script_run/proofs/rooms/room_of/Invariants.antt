use Rattle.std.proofs.Common.{◌≡◌, ◌+◌, drop}
use Rattle.std.specs.List.{flat_map}
use Rattle.workload_text.specs.View.{script_lines, lines_of}
use Rattle.workload_text.specs.Accepted.{regions_of}
use Rattle.script_run.specs.InsideRooms.{rooms}
use Rattle.script_run.proofs.rooms.room_of.Given as goal

abbrev pub invariant-loop-i : goal.invariant-loop-i
invariant-loop-i l = l.room + rooms (regions_of (lines_of l.fn.workload)) (flat_map script_lines (drop l.i l.scripts)) ≡ rooms (regions_of (lines_of l.fn.workload)) (lines_of l.fn.workload)
