use Rattle.std.proofs.Common.{◌∙◌}
use Rattle.page_buffer.proofs.Oldest.{of_region}
use Rattle.page_buffer.proofs.buffer.PageBuffer.oldest_of.Goals as goal

pub returns : goal.returns
returns c = record { exact = rw (← c.self.view_is) (c.first_of.ensures.exact ∙ of_region _ c.self.inside.order c.self.invariant.0.linked c.self.invariant.0.pages c.args.region) }
