use Rattle.page_model.proofs.Services.{service_knows as lemma}
use Rattle.page_model.proofs.events.service_knows.Goals as goal

pub returns : goal.returns
returns c = lemma
