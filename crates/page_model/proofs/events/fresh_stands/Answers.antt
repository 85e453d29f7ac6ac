use Rattle.page_model.proofs.StandsLight.{fresh_stands as lemma}
use Rattle.page_model.proofs.events.fresh_stands.Goals as goal

pub returns : goal.returns
returns c = lemma
