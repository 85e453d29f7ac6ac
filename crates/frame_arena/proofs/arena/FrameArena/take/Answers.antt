use Rattle.std.proofs.Common.{◌≡◌, ◌+◌, Some, None, sym, ap, ◌∙◌, arith, slice_get, slice_set}
use Rattle.std.proofs.lemmas.Option.{slice_get-get_or}
use Rattle.frame_arena.specs.Frames.{ArenaSeen, held, with_slot}
use Rattle.frame_arena.specs.InsideArenas.{id_of}
use Rattle.frame_arena.proofs.Shelved.{shelf_at, held_unset, IsAt}
use Rattle.frame_arena.proofs.Arenas.{arena_take}
use Rattle.frame_arena.proofs.arena.FrameArena.take.Goals as goal

pub invariant_of-self-2 : goal.invariant_of-self-2
invariant_of-self-2 c = arena_take c.self.inside.whole c.self.inside.book.names c.self.inside.slots.items c.unshelve.new.slots.items c.self.inside.frames c.self.inside.page_size c.in_ok-at.at c.self.invariant c.unshelve.ensures.emptied

pub returns-clause-was : goal.returns-clause-was
returns-clause-was c =
    let i = c.self.inside in
    let at = c.in_ok-at.at in
    let within = c.in_ok-at.ensures.within in
    let there = shelf_at (id_of i.whole i.page_size i.book.names) 0 i.slots.items at None c.unshelve.result c.self.invariant.shelf within c.unshelve.ensures.was in
    let zero_at : 0 + at ≡ at = omega arith in
    ap (λ (s : ArenaSeen). slice_get s.slots c.unshelve.result.number) (sym c.self.view_is) ∙ ap (λ n. slice_get i.slots.items n) (there.0 ∙ zero_at)
    ∙ slice_get-get_or i.slots.items at None within ∙ ap (λ o. Some o) c.unshelve.ensures.was

pub returns-clause-taken : goal.returns-clause-taken
returns-clause-taken c =
    let i = c.self.inside in
    let at = c.in_ok-at.at in
    let there = shelf_at (id_of i.whole i.page_size i.book.names) 0 i.slots.items at None c.unshelve.result c.self.invariant.shelf c.in_ok-at.ensures.within c.unshelve.ensures.was in
    let zero_at : 0 + at ≡ at = omega arith in
    let set = c.unshelve.ensures.emptied ∙ ap (λ n. slice_set i.slots.items n None) (sym (there.0 ∙ zero_at)) in
    (λ k. record { arena = id_of i.whole i.page_size i.book.names; frames = i.frames; slots = set k }) ∙ ap (λ (s : ArenaSeen). with_slot s c.unshelve.result.number None) c.self.view_is

pub returns-clause-arena : goal.returns-clause-arena
returns-clause-arena c =
    let i = c.self.inside in
    let f = c.unshelve.result in
    let there : IsAt (id_of i.whole i.page_size i.book.names) (0 + c.in_ok-at.at) f = shelf_at _ 0 i.slots.items c.in_ok-at.at None f c.self.invariant.shelf c.in_ok-at.ensures.within c.unshelve.ensures.was in
    there.1 ∙ ap (λ (s : ArenaSeen). s.arena) c.self.view_is

pub returns-clause-home : goal.returns-clause-home
returns-clause-home c =
    let slots = c.self.inside.slots.items in
    sym (ap (λ (s : ArenaSeen). held s.slots) c.self.view_is) ∙ held_unset slots c.in_ok-at.at None c.unshelve.result c.in_ok-at.ensures.within c.unshelve.ensures.was ∙ ap (λ l. held l + 1) (sym c.unshelve.ensures.emptied)
