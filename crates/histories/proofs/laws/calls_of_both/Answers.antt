use Rattle.histories.proofs.Calls.{calls_append}
use Rattle.histories.proofs.laws.calls_of_both.Goals as goal

pub returns : goal.returns
returns g c = calls_append
