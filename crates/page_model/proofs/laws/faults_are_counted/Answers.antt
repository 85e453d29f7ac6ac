use Rattle.page_model.proofs.Counted.{faults_counted as lemma}
use Rattle.page_model.proofs.laws.faults_are_counted.Goals as goal

pub returns : goal.returns
returns c = lemma
