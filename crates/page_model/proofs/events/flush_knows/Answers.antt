use Rattle.page_model.proofs.NextDirty.{flush_knows as lemma}
use Rattle.page_model.proofs.events.flush_knows.Goals as goal

pub returns : goal.returns
returns c = lemma c.least_is_first.ensures
