use Rattle.page_model.proofs.Serving.{waiting_protected as lemma}
use Rattle.page_model.proofs.laws.waiting_is_protected.Goals as goal

pub returns : goal.returns
returns c = lemma
