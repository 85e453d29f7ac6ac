use Rattle.page_model.proofs.Dirty.{dirty_is_raised as lemma}
use Rattle.page_model.proofs.laws.dirty_is_raised.Goals as goal

pub returns : goal.returns
returns c = lemma
