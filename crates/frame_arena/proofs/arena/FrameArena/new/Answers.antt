use Rattle.std.proofs.Common.{rules, ◌≡◌, ◌*◌, replicate, sym, subst, ◌∙◌}
use Rattle.frame_arena.specs.InsideOwnership.{IsPlaced}
use Rattle.frame_arena.proofs.Cutting.{cut_first, cut_step}
use Rattle.frame_arena.proofs.Shelved.{full_shelf, full_held}
use Rattle.frame_arena.proofs.arena.FrameArena.new.Goals as goal

pub loop-number-init : goal.loop-number-init
loop-number-init c =
    let d = c.open-rest.ensures in
    let whole = c.open-rest.result.1 in
    let zeros : c.in_ok-block.block.items ≡ replicate (c.args.frames * c.args.page_size) 0 = search rules in
    record {
      cut = cut_first whole c.new-book.result.names c.as_mut_ptr-at.result c.open-rest.result.0.place c.open-rest.result.0.bytes c.new-book.result.next c.in_ok-slots.slots.items c.args.frames c.args.page_size
          (subst IsPlaced (sym d.3) d.2) (search rules) (d.0 ∙ sym d.3) (search (rules, zeros)) c.new-book.ensures.1 c.new-book.ensures.0 (search rules);
      slots_room = search rules;
      hints_room = search rules;
      hints = search rules;
    }

pub loop-number-preserved : goal.loop-number-preserved
loop-number-preserved c =
    let l = c.loop-number in
    let i = l.invariant.cut in
    record {
      cut = cut_step c.open-rest.result.1 l.book.names l.at l.rest.place l.rest.bytes l.book.next l.slots.items c.args.frames c.args.page_size l.number i (search rules)
          c.cut-frame.result.0 _ _ _ _ _ _ c.cut-frame.ensures.arena c.cut-frame.ensures.frame.1 c.cut-frame.ensures.book.0 c.byte_add-at.ensures.value c.cut-frame.ensures.rest.0 c.cut-frame.ensures.rest.1 c.cut-frame.ensures.book.1
          c.push_reserved.ensures.items c.cut-frame.ensures.frame.0;
      slots_room = search rules;
      hints_room = search rules;
      hints = search rules;
    }

pub invariant_of-result : goal.invariant_of-result
invariant_of-result c =
    let i = c.loop-number.invariant.cut in
    let end : c.loop-number.number ≡ c.args.frames = search rules in
    record {
      placed = i.placed;
      size = search rules;
      some_frames = c.requires.some.0;
      some_bytes = c.requires.some.1;
      small = c.requires.small;
      named = i.named;
      many = i.many ∙ end;
      shelf = full_shelf _ 0 _ i.mine;
    }

pub returns-clause-home : goal.returns-clause-home
returns-clause-home c =
    let i = c.loop-number.invariant.cut in
    let end : c.loop-number.number ≡ c.args.frames = search rules in
    full_held _ 0 _ i.mine ∙ i.many ∙ end
