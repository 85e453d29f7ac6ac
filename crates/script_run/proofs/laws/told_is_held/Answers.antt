use Rattle.script_run.proofs.Tellings as law
use Rattle.script_run.proofs.laws.told_is_held.Goals as goal

pub returns : goal.returns
returns c = law.told_is_held
