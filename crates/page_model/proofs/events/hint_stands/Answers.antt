use Rattle.page_model.proofs.StandsLight.{hint_stands as lemma}
use Rattle.page_model.proofs.events.hint_stands.Goals as goal

pub returns : goal.returns
returns c = lemma
