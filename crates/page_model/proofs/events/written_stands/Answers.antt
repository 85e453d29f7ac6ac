use Rattle.page_model.proofs.StandsWrites.{written_stands as lemma}
use Rattle.page_model.proofs.events.written_stands.Goals as goal

pub returns : goal.returns
returns c = lemma
