use Rattle.std.proofs.Common.{refl}
use Rattle.page_model.specs.Examples.{stripe_with, history_of, closing_with_a_fault}
use Rattle.page_model.proofs.applied.a_pending_fault_is_to_be_dropped.Goals as goal

pub returns : goal.returns
returns c = c.closing_goes_ahead.ensures (stripe_with 1) (history_of closing_with_a_fault) 0 refl refl refl
