use Rattle.page_model.proofs.Starts.{in_flight_there as lemma}
use Rattle.page_model.proofs.laws.in_flight_is_there.Goals as goal

pub returns : goal.returns
returns c = lemma
