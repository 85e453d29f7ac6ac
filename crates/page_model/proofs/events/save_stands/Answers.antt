use Rattle.page_model.proofs.StandsPages.{save_stands as lemma}
use Rattle.page_model.proofs.events.save_stands.Goals as goal

pub returns : goal.returns
returns c = lemma
