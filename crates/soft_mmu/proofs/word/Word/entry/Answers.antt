use Rattle.std.proofs.Common.{◌∙◌}
use Rattle.soft_mmu.proofs.Words.{decoded_absent, decoded_present}
use Rattle.soft_mmu.proofs.word.Word.entry.Goals as goal

pub returns-then-self-eq0 : goal.returns-then-self-eq0
returns-then-self-eq0 c = decoded_absent c.self.inside.0 c.if-self-eq0.true ∙ c.self.view_is

pub returns : goal.returns
returns c = decoded_present c.self.inside.0 c.if-self-eq0.false ∙ c.self.view_is
