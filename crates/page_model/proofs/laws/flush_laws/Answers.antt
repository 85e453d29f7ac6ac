use Rattle.page_model.proofs.Flushes.{flush_laws as lemma}
use Rattle.page_model.proofs.laws.flush_laws.Goals as goal

pub returns : goal.returns
returns c = lemma
