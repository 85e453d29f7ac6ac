use Rattle.workload_text.proofs.FirstBads.{accepted_free}
use Rattle.workload_text.proofs.laws.accepted_is_free.Goals as goal

pub returns : goal.returns
returns c = λ bytes texts is. accepted_free bytes texts is
