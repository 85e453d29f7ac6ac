use Rattle.workload_text.proofs.Refused.{refused_as, refused_at}
use Rattle.workload_text.proofs.laws.text_is_refused_at_its_first_bad_line.Goals as goal

pub returns : goal.returns
returns c = λ bytes r. (refused_as bytes r, refused_at bytes r)
