use Rattle.script_run.proofs.WithoutFaults as law
use Rattle.script_run.proofs.laws.without_faults.Goals as goal

pub returns : goal.returns
returns c = law.without_faults
