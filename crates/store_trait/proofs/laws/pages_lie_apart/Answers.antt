use Rattle.store_trait.proofs.Rows.{rows_apart}
use Rattle.store_trait.proofs.laws.pages_lie_apart.Goals as goal

pub returns : goal.returns
returns c = rows_apart
