use Rattle.page_model.proofs.StandsWrites.{write_failed_stands as lemma}
use Rattle.page_model.proofs.events.write_failed_stands.Goals as goal

pub returns : goal.returns
returns c = lemma
