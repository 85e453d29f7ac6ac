use Rattle.std.proofs.Common.{◌≡◌, map, drop}
use Rattle.workload_text.specs.Grammar.{region_from}
use Rattle.workload_text.specs.View.{region}
use Rattle.workload_text.proofs.commands.region_of.Given as goal

abbrev pub invariant-loop-i : goal.invariant-loop-i
invariant-loop-i l = region_from 0 (map region l.maps) l.name ≡ region_from l.i (map region (drop l.i l.maps)) l.name
