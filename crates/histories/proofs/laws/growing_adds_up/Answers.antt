use Rattle.histories.proofs.Growing.{growing_adds_up as lemma}
use Rattle.histories.proofs.laws.growing_adds_up.Goals as goal

pub returns : goal.returns
returns g c = lemma
