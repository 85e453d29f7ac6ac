use Rattle.std.proofs.Common.{◌∙◌, ap}
use Rattle.page_buffer.proofs.Counts.{one}
use Rattle.page_buffer.proofs.Rooms.{member_so}
use Rattle.page_buffer.proofs.buffer.PageBuffer.mark_dirty.Goals as goal

pub unmark-requires : goal.unmark-requires
unmark-requires c = record { member = member_so c.self.inside.order c.args.frame (c.self.invariant.0.pages.placed c.args.frame ∙ ap one (rw (← c.self.view_is) at c.requires.resident)) }
