use Rattle.page_model.proofs.Turns as law
use Rattle.page_model.proofs.laws.owners_in_turn.Goals as goal

pub returns : goal.returns
returns c = law.owners_in_turn
