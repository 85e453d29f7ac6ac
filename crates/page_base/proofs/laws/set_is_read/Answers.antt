use Rattle.page_base.proofs.Sets.{slice_set_same, slice_set_other, slice_set_length}
use Rattle.page_base.proofs.laws.set_is_read.Goals as goal

pub returns : goal.returns
returns g c = record { here = slice_set_same; elsewhere = slice_set_other; length_ = slice_set_length }
