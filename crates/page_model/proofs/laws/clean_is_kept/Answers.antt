use Rattle.page_model.proofs.Kept.{clean_kept as lemma}
use Rattle.page_model.proofs.laws.clean_is_kept.Goals as goal

pub returns : goal.returns
returns c = lemma
