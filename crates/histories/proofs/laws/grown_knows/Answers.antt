use Rattle.histories.proofs.Growing.{grown_knows as lemma}
use Rattle.histories.proofs.laws.grown_knows.Goals as goal

pub returns : goal.returns
returns g c = lemma
