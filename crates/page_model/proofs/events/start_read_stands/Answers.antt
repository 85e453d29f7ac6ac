use Rattle.page_model.proofs.StandsReads.{start_read_stands as lemma}
use Rattle.page_model.proofs.events.start_read_stands.Goals as goal

pub returns : goal.returns
returns c = lemma
