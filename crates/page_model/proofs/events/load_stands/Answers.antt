use Rattle.page_model.proofs.StandsLight.{load_stands as lemma}
use Rattle.page_model.proofs.events.load_stands.Goals as goal

pub returns : goal.returns
returns c = lemma
