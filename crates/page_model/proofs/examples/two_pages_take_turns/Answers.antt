use Rattle.std.proofs.Common.{refl}
use Rattle.page_model.proofs.examples.two_pages_take_turns.Goals as goal

pub returns : goal.returns
returns c = assumption refl
