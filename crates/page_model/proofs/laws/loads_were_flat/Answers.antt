use Rattle.page_model.proofs.Prefixes.{loads_were_flat as lemma}
use Rattle.page_model.proofs.laws.loads_were_flat.Goals as goal

pub returns : goal.returns
returns c = lemma
