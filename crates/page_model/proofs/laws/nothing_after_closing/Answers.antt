use Rattle.page_model.proofs.Closings.{nothing_after_closing as lemma}
use Rattle.page_model.proofs.laws.nothing_after_closing.Goals as goal

pub returns : goal.returns
returns c = lemma
