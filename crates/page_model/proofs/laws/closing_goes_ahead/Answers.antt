use Rattle.page_model.proofs.Emptied.{closing_ahead as lemma}
use Rattle.page_model.proofs.laws.closing_goes_ahead.Goals as goal

pub returns : goal.returns
returns c = lemma
