use Rattle.page_model.proofs.Raises.{hint_raised as lemma}
use Rattle.page_model.proofs.laws.raised_is_last.Goals as goal

pub returns : goal.returns
returns c = lemma
