use Rattle.workload_text.proofs.Runnable.{runnable}
use Rattle.workload_text.proofs.laws.accepted_lines_are_runnable.Goals as goal

pub returns : goal.returns
returns c = λ bytes lines h. runnable bytes lines h
