use Rattle.histories.proofs.Aloneness.{alone_is_own as lemma}
use Rattle.histories.proofs.laws.alone_is_own.Goals as goal

pub returns : goal.returns
returns g c = lemma
