use Rattle.page_model.proofs.Prefixes.{loads_flat as lemma}
use Rattle.page_model.proofs.laws.loads_are_flat.Goals as goal

pub returns : goal.returns
returns c = lemma
