use Rattle.page_model.proofs.Emptied.{unmapped_emptied as lemma}
use Rattle.page_model.proofs.laws.unmapped_is_emptied.Goals as goal

pub returns : goal.returns
returns c = lemma
