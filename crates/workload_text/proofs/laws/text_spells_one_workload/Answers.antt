use Rattle.std.proofs.Common.{sym, ap, ◌∙◌}
use Rattle.workload_text.specs.Grammar.{lines_in}
use Rattle.workload_text.proofs.Complete.{one_reading}
use Rattle.workload_text.proofs.laws.text_spells_one_workload.Goals as goal

pub returns : goal.returns
returns c = λ bytes some other h k. sym h.lines_are ∙ ap lines_in (one_reading bytes h.texts k.texts h.text k.text) ∙ k.lines_are
