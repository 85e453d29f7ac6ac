use Rattle.histories.proofs.Calls.{others_alone}
use Rattle.histories.proofs.laws.same_calls_are_others.Goals as goal

pub returns : goal.returns
returns g c = others_alone
