use Rattle.page_model.proofs.Kept.{absent_kept as lemma}
use Rattle.page_model.proofs.laws.absent_is_kept.Goals as goal

pub returns : goal.returns
returns c = lemma
