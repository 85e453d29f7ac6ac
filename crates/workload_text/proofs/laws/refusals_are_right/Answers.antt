use Rattle.workload_text.proofs.FirstBads.{refused_rightly}
use Rattle.workload_text.proofs.laws.refusals_are_right.Goals as goal

pub returns : goal.returns
returns c = λ bytes r h. refused_rightly bytes r h
