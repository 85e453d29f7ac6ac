use Rattle.std.proofs.Common.{take, map}
use Rattle.workload_text.specs.View.{region}
use Rattle.script_run.specs.Contents.{rows_in}
use Rattle.script_run.specs.InsideZeros.{AreZeroRows}
use Rattle.script_run.proofs.memory.put_regions.Given as goal

abbrev pub invariant-loop-i : goal.invariant-loop-i
invariant-loop-i l = AreZeroRows l.layout.page_size l.layout.stripes (take l.i (map region l.maps)) (rows_in l.rows)
