use Rattle.page_model.proofs.StripePages.{accesses_both}
use Rattle.page_model.proofs.laws.accesses_of_both.Goals as goal

pub returns : goal.returns
returns c = accesses_both c.calls_of_both.ensures
