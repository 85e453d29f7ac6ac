use Rattle.page_model.proofs.Turns as law
use Rattle.page_model.proofs.laws.own_bytes.Goals as goal

pub returns : goal.returns
returns c = law.own_bytes
