use Rattle.page_model.proofs.Bits.{unprotected_dirty as lemma}
use Rattle.page_model.proofs.laws.unprotected_is_dirty.Goals as goal

pub returns : goal.returns
returns c = lemma
