use Rattle.histories.proofs.Tails.{first_prefix}
use Rattle.histories.proofs.laws.first_is_prefix.Goals as goal

pub returns : goal.returns
returns g c = first_prefix
