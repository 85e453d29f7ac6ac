use Rattle.page_model.proofs.StandsReads.{read_failed_stands as lemma}
use Rattle.page_model.proofs.events.read_failed_stands.Goals as goal

pub returns : goal.returns
returns c = lemma
