use Rattle.histories.proofs.Tails.{shorter}
use Rattle.histories.proofs.laws.shorter_goes_on.Goals as goal

pub returns : goal.returns
returns g c = shorter
