use Rattle.page_model.proofs.StandsLight.{unmapped_stands as lemma}
use Rattle.page_model.proofs.events.unmapped_stands.Goals as goal

pub returns : goal.returns
returns c = lemma
