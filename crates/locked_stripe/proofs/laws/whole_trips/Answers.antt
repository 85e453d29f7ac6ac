use Rattle.locked_stripe.proofs.WholeTrips.{whole_all}
use Rattle.locked_stripe.proofs.laws.whole_trips.Goals as goal

pub returns : goal.returns
returns c = whole_all c.same_is_equal.ensures
