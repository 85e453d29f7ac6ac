use Rattle.page_model.proofs.StandsPages.{open_page_stands as lemma}
use Rattle.page_model.proofs.events.open_page_stands.Goals as goal

pub returns : goal.returns
returns c = lemma
