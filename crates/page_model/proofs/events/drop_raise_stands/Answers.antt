use Rattle.page_model.proofs.StandsLight.{drop_raise_stands as lemma}
use Rattle.page_model.proofs.events.drop_raise_stands.Goals as goal

pub returns : goal.returns
returns c = lemma
