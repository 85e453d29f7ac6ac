use Rattle.histories.proofs.Calls.{others_same, others_trans}
use Rattle.histories.proofs.laws.others_keep_calls.Goals as goal

pub returns : goal.returns
returns g c = record { same = others_same; goes_on = λ o old new w. (w.later, w.is); trans = others_trans }
