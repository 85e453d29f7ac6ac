use Rattle.std.proofs.Common.{refl}
use Rattle.page_model.proofs.examples.a_page_is_reopened.Goals as goal

pub returns : goal.returns
returns c = assumption refl
