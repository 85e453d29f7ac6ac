use Rattle.page_model.proofs.Starts.{writes_taken}
use Rattle.page_model.proofs.laws.writes_are_taken.Goals as goal

pub returns : goal.returns
returns c = writes_taken c.first_is_prefix.ensures
