use Rattle.page_model.proofs.StandsReads.{filled_stands as lemma}
use Rattle.page_model.proofs.events.filled_stands.Goals as goal

pub returns : goal.returns
returns c = lemma
