use Rattle.page_model.proofs.StandsLight.{raise_stands as lemma}
use Rattle.page_model.proofs.events.raise_stands.Goals as goal

pub returns : goal.returns
returns c = lemma
