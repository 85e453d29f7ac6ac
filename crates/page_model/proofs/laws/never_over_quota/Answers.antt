use Rattle.page_model.proofs.Quota.{never_over as lemma}
use Rattle.page_model.proofs.laws.never_over_quota.Goals as goal

pub returns : goal.returns
returns c = lemma
