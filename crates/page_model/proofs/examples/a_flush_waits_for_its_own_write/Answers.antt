use Rattle.std.proofs.Common.{refl}
use Rattle.page_model.proofs.examples.a_flush_waits_for_its_own_write.Goals as goal

pub returns-clause-legal : goal.returns-clause-legal
returns-clause-legal c = assumption refl
