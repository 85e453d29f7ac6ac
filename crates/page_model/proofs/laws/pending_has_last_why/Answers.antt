use Rattle.page_model.proofs.Known.{pending_whys as lemma}
use Rattle.page_model.proofs.laws.pending_has_last_why.Goals as goal

pub returns : goal.returns
returns c = lemma
