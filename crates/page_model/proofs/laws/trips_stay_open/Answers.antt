use Rattle.page_model.proofs.Lanes.{trips_stay_open as lemma}
use Rattle.page_model.proofs.laws.trips_stay_open.Goals as goal

pub returns : goal.returns
returns c = lemma
