use Rattle.page_model.proofs.Saves.{stores_held as lemma}
use Rattle.page_model.proofs.laws.stores_are_held.Goals as goal

pub returns : goal.returns
returns c = lemma
