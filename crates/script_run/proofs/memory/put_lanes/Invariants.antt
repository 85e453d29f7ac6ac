use Rattle.std.proofs.Common.{vec_len}
use Rattle.script_run.specs.Contents.{rows_in}
use Rattle.script_run.proofs.Zeros.{PutsSome}
use Rattle.script_run.proofs.memory.put_lanes.Given as goal

abbrev pub invariant-lanes : goal.invariant-lanes
invariant-lanes l = PutsSome l.initial.lanes.items l.lanes.items (rows_in l.initial.rows) (rows_in l.rows)

abbrev pub decreases-lanes : goal.decreases-lanes
decreases-lanes l = vec_len l.lanes
