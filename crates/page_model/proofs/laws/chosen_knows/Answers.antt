use Rattle.page_model.proofs.Ahead.{chosen_knows as lemma}
use Rattle.page_model.proofs.laws.chosen_knows.Goals as goal

pub returns : goal.returns
returns c = lemma
