use Rattle.std.proofs.Common.{◌∙◌, None, sym}
use Rattle.page_buffer.specs.Insides.{frames_seen}
use Rattle.page_buffer.proofs.Residents.{resident_there}
use Rattle.page_buffer.proofs.Oldest.{find_there, clean_but, clean_of, none_but}
use Rattle.page_buffer.proofs.buffer.PageBuffer.oldest_clean.Goals as goal

pub oldest_past-requires : goal.oldest_past-requires
oldest_past-requires c =
    let s = c.self.inside in
    let found = sym c.in-Some-oldest.is ∙ (c.first_marked-oldest.ensures.exact ∙ clean_of (frames_seen s.frames.items) s.order c.self.invariant.0.linked c.self.invariant.0.pages c.args.region) in
    let there = (find_there (clean_but (frames_seen s.frames.items) s.order c.self.invariant.0.linked c.self.invariant.0.pages c.args.region None) s.order.order c.in-Some-oldest.frame found).1 in
    record { resident = rw (← c.self.view_is) (resident_there (frames_seen s.frames.items) s.order.order c.in-Some-oldest.frame c.self.invariant.0.pages there).0; oldest = rw (← c.self.view_is) found }

pub returns-in_default : goal.returns-in_default
returns-in_default c =
    let s = c.self.inside in
    let found = c.first_marked-oldest.ensures.exact ∙ clean_of (frames_seen s.frames.items) s.order c.self.invariant.0.linked c.self.invariant.0.pages c.args.region in
    record { exact = rw (← c.self.view_is, c.in_default.is) found }

pub returns-in-None : goal.returns-in-None
returns-in-None c =
    let s = c.self.inside in
    let found = sym c.in-None.is ∙ (c.first_marked-oldest.ensures.exact ∙ clean_of (frames_seen s.frames.items) s.order c.self.invariant.0.linked c.self.invariant.0.pages c.args.region) in
    record { exact = rw (← c.self.view_is) (none_but (frames_seen s.frames.items) s.order c.self.invariant.0.linked c.self.invariant.0.pages c.args.region c.args.but found) }
