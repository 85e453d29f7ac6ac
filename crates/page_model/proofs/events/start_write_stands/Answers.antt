use Rattle.page_model.proofs.StandsWrites.{start_write_stands as lemma}
use Rattle.page_model.proofs.events.start_write_stands.Goals as goal

pub returns : goal.returns
returns c = lemma
