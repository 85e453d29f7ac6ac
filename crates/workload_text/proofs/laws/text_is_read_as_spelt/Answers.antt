use Rattle.workload_text.proofs.Sound.{text_sound}
use Rattle.workload_text.proofs.Complete.{text_complete}
use Rattle.workload_text.proofs.laws.text_is_read_as_spelt.Goals as goal

pub returns : goal.returns
returns c = λ bytes texts. (text_sound bytes texts, text_complete bytes texts)
