use Rattle.page_model.proofs.Picks.{pages_show as lemma}
use Rattle.page_model.proofs.events.pages_show.Goals as goal

pub returns : goal.returns
returns c = lemma
