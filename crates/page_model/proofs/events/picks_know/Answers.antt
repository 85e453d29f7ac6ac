use Rattle.page_model.proofs.Picks.{picks_know as lemma}
use Rattle.page_model.proofs.events.picks_know.Goals as goal

pub returns : goal.returns
returns c = lemma
