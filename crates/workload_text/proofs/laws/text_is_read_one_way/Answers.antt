use Rattle.workload_text.proofs.Complete.{one_reading}
use Rattle.workload_text.proofs.laws.text_is_read_one_way.Goals as goal

pub returns : goal.returns
returns c = λ bytes some other h k. one_reading bytes some other h k
