use Rattle.histories.proofs.Calls.{calls_own, calls_other}
use Rattle.histories.proofs.laws.calls_of_one.Goals as goal

pub returns : goal.returns
returns g c = record { own = calls_own; others = calls_other }
