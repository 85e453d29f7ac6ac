use Rattle.page_model.proofs.Whys.{whys_agree as lemma}
use Rattle.page_model.proofs.events.whys_agree.Goals as goal

pub returns : goal.returns
returns c = lemma
