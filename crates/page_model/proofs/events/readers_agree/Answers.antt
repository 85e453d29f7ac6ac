use Rattle.page_model.proofs.Agreements.{readers_agree as lemma}
use Rattle.page_model.proofs.events.readers_agree.Goals as goal

pub returns : goal.returns
returns c = lemma
