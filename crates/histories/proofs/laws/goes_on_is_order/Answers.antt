use Rattle.std.proofs.Common.{[], ◌∷◌, refl}
use Rattle.histories.proofs.Tails.{goes_on_trans, length-goes_on}
use Rattle.histories.proofs.laws.goes_on_is_order.Goals as goal

pub returns : goal.returns
returns g c = record { refl_ = λ h. ([], refl); one = λ x h. (x ∷ [], refl); trans = goes_on_trans; length_ = length-goes_on }
