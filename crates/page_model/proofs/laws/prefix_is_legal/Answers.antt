use Rattle.page_model.proofs.Prefixes.{prefix_legal as lemma}
use Rattle.page_model.proofs.laws.prefix_is_legal.Goals as goal

pub returns : goal.returns
returns c = lemma
