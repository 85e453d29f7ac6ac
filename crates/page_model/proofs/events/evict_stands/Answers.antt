use Rattle.page_model.proofs.StandsPages.{evict_stands as lemma}
use Rattle.page_model.proofs.events.evict_stands.Goals as goal

pub returns : goal.returns
returns c = lemma
