use Rattle.histories.proofs.Aloneness.{one_later as lemma}
use Rattle.histories.proofs.laws.one_later.Goals as goal

pub returns : goal.returns
returns g c = lemma
