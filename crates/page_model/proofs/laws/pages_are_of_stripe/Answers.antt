use Rattle.page_model.proofs.StripePages.{pages_of_stripe as lemma}
use Rattle.page_model.proofs.laws.pages_are_of_stripe.Goals as goal

pub returns : goal.returns
returns c = lemma
