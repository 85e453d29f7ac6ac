use Rattle.std.proofs.Common.{◌≤◌, ◌+◌, length}
use Rattle.workload_text.specs.InsideState.{IsSound}
use Rattle.workload_text.proofs.Lines.{ReadsOn, whole}
use Rattle.workload_text.proofs.text.parse.Given as goal

abbrev pub invariant-loop-rest : goal.invariant-loop-rest
invariant-loop-rest l = record {
  read : ReadsOn l.reading l.number l.rest (whole l.bytes);
  sound : IsSound l.reading;
  few : l.number + length l.rest ≤ 16777217;
}

abbrev pub decreases-loop-rest : goal.decreases-loop-rest
decreases-loop-rest l = length l.rest
