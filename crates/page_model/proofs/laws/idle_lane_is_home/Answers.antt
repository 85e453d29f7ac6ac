use Rattle.page_model.proofs.Owners.{idle_home as lemma}
use Rattle.page_model.proofs.laws.idle_lane_is_home.Goals as goal

pub returns : goal.returns
returns c = lemma
