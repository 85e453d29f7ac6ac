use Rattle.page_model.proofs.Waits.{few_pending as lemma}
use Rattle.page_model.proofs.laws.few_are_pending.Goals as goal

pub returns : goal.returns
returns c = lemma
