use Rattle.histories.proofs.Growing.{new_stays as lemma}
use Rattle.histories.proofs.laws.new_stays.Goals as goal

pub returns : goal.returns
returns g c = lemma
