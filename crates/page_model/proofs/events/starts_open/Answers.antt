use Rattle.page_model.proofs.Services.{starts_open as lemma}
use Rattle.page_model.proofs.events.starts_open.Goals as goal

pub returns : goal.returns
returns c = lemma
