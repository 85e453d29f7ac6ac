use Rattle.page_model.proofs.Ahead.{waiting_absent as lemma}
use Rattle.page_model.proofs.laws.waiting_is_absent.Goals as goal

pub returns : goal.returns
returns c = lemma
