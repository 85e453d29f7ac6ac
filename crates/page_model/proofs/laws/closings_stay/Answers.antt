use Rattle.page_model.proofs.Emptied.{closings_stay as lemma}
use Rattle.page_model.proofs.laws.closings_stay.Goals as goal

pub returns : goal.returns
returns c = lemma
