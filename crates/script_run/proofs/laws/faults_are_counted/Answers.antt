use Rattle.script_run.proofs.Counted as law
use Rattle.script_run.proofs.laws.faults_are_counted.Goals as goal

pub returns : goal.returns
returns c = law.faults_are_counted
