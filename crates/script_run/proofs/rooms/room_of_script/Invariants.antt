use Rattle.std.proofs.Common.{◌≡◌, ◌+◌, List, drop, map}
use Rattle.workload_text.specs.Grammar.{Region}
use Rattle.workload_text.specs.View.{script_lines, command_line}
use Rattle.script_run.specs.InsideRooms.{fault_room, rooms}
use Rattle.script_run.proofs.rooms.room_of_script.Given as goal

abbrev pub invariant-loop-i : goal.invariant-loop-i
invariant-loop-i l = (gs : List Region) → l.fault ≡ fault_room gs → l.room + rooms gs (map command_line (drop l.i l.commands)) ≡ rooms gs (script_lines l.fn.script)
