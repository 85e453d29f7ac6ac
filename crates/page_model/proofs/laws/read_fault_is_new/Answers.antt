use Rattle.page_model.proofs.Counted.{fault_is_new as lemma}
use Rattle.page_model.proofs.laws.read_fault_is_new.Goals as goal

pub returns : goal.returns
returns c = lemma
