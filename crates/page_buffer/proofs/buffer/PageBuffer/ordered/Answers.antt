use Rattle.std.proofs.Common.{◌∙◌, refl}
use Rattle.page_buffer.proofs.Oldest.{all_resident}
use Rattle.page_buffer.proofs.buffer.PageBuffer.ordered.Goals as goal

pub returns : goal.returns
returns c = record { ordered = rw (← c.self.view_is) (record { resident = all_resident _ _ c.self.invariant.0.pages; pages = refl; marks = c.whole.ensures.whole.marks ∙ c.self.invariant.0.linked.numbers }) }
