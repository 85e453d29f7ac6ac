use Rattle.std.proofs.Common.{◌+◌, sym, ap, ◌∙◌}
use Rattle.frame_arena.specs.Frames.{ArenaSeen, held}
use Rattle.frame_arena.proofs.Shelved.{count_set}
use Rattle.frame_arena.proofs.Arenas.{arena_put}
use Rattle.frame_arena.proofs.arena.FrameArena.put.Goals as goal

pub invariant_of-self : goal.invariant_of-self
invariant_of-self c = arena_put c.self.inside.whole c.self.inside.book.names c.self.inside.slots.items c.shelve.new.slots.items c.self.inside.frames c.self.inside.page_size c.args.frame c.self.invariant (c.requires.arena ∙ sym (ap (λ (s : ArenaSeen). s.arena) c.self.view_is)) c.shelve.ensures.shelved

pub invariant_of-self-else-len-capacity : goal.invariant_of-self-else-len-capacity
invariant_of-self-else-len-capacity c = arena_put c.self.inside.whole c.self.inside.book.names c.self.inside.slots.items c.shelve.new.slots.items c.self.inside.frames c.self.inside.page_size c.args.frame c.self.invariant (c.requires.arena ∙ sym (ap (λ (s : ArenaSeen). s.arena) c.self.view_is)) c.shelve.ensures.shelved

pub returns-then-len-capacity-clause-home : goal.returns-then-len-capacity-clause-home
returns-then-len-capacity-clause-home c = ap held c.shelve.ensures.shelved ∙ count_set c.self.inside.slots.items c.args.frame.number c.args.frame c.shelve.ensures.empty ∙ ap (λ (s : ArenaSeen). held s.slots + 1) c.self.view_is

pub returns-else-len-capacity-clause-home : goal.returns-else-len-capacity-clause-home
returns-else-len-capacity-clause-home c = ap held c.shelve.ensures.shelved ∙ count_set c.self.inside.slots.items c.args.frame.number c.args.frame c.shelve.ensures.empty ∙ ap (λ (s : ArenaSeen). held s.slots + 1) c.self.view_is
