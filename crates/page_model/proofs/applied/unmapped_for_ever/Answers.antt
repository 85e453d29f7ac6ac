use Rattle.std.proofs.Common.{refl, ◌++◌}
use Rattle.page_model.specs.Examples.{history_of, two_pages_in_one_frame}
use Rattle.page_model.proofs.applied.unmapped_for_ever.Goals as goal

pub returns : goal.returns
returns c = λ later. c.closings_stay.ensures.unmapped (history_of two_pages_in_one_frame) (later ++ history_of two_pages_in_one_frame) 0 (later, refl) refl
