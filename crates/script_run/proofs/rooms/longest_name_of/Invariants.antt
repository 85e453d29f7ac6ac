use Rattle.std.proofs.Common.{◌≡◌, max, drop, map}
use Rattle.workload_text.specs.View.{region}
use Rattle.script_run.specs.InsideRooms.{longest_name}
use Rattle.script_run.proofs.rooms.longest_name_of.Given as goal

abbrev pub invariant-loop-i : goal.invariant-loop-i
invariant-loop-i l = max l.longest (longest_name (map region (drop l.i l.maps))) ≡ longest_name (map region l.fn.maps)
