use Rattle.page_model.proofs.StandsLight.{closing_stands as lemma}
use Rattle.page_model.proofs.events.closing_stands.Goals as goal

pub returns : goal.returns
returns c = lemma
