use Rattle.page_base.proofs.SameKeys.{same-true, same_self, not_same, same_comm}
use Rattle.page_base.proofs.laws.same_is_equal.Goals as goal

pub returns : goal.returns
returns c = record { self_ = same_self; equal = same-true; differs = not_same; swaps = same_comm }
