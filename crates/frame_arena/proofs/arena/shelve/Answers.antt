use Rattle.std.proofs.Common.{◌≡◌, ◌+◌, ◌<◌, Some, None, Option, length, sym, ap, ◌∙◌, arith, slice_index_or}
use Rattle.std.proofs.lemmas.List.{get_or-set_same}
use Rattle.frame_arena.specs.Frames.{ArenaFrame}
use Rattle.frame_arena.proofs.Shelved.{shelf_at}
use Rattle.frame_arena.proofs.arena.shelve.Goals as goal

abbrev value_of : ArenaFrame → Option ArenaFrame → ArenaFrame
value_of d None = d
value_of d (Some f) = f

some_is : (f g : ArenaFrame) → Some f ≡ Some g → f ≡ g
some_is f g e = ap (value_of f) e

pub differ-here-requires : goal.differ-here-requires
differ-here-requires c =
    let slots = c.args.slots.now.items in
    let at = c.number-at.result in
    let within : at < length slots = rw c.requires.size c.number-at.ensures.named in
    let old : slice_index_or slots at c.index_mut.result.now ≡ Some c.in-Some.other = sym c.index_mut.ensures.value ∙ sym c.replace.ensures.value ∙ c.in-Some.is in
    let there = shelf_at c.args.frame.arena 0 slots at c.index_mut.result.now c.in-Some.other c.requires.shelf within old in
    let new : Some c.args.frame ≡ Some c.unwrap-here.result = sym c.replace.ensures.after ∙ sym (get_or-set_same slots at c.replace.new.dest c.index_mut-2.result.now within) ∙ sym c.index_mut-2.ensures.value ∙ sym c.take.ensures.value ∙ c.unwrap-here.ensures in
    let is : c.args.frame ≡ c.unwrap-here.result = some_is c.args.frame c.unwrap-here.result new in
    record { arena = sym (ap (λ (f : ArenaFrame). f.arena) is) ∙ sym there.1 }

pub unreachable-requires : goal.unreachable-requires
unreachable-requires c =
    let slots = c.args.slots.now.items in
    let at = c.number-at.result in
    let within : at < length slots = rw c.requires.size c.number-at.ensures.named in
    let old : slice_index_or slots at c.index_mut.result.now ≡ Some c.in-Some.other = sym c.index_mut.ensures.value ∙ sym c.replace.ensures.value ∙ c.in-Some.is in
    let there = shelf_at c.args.frame.arena 0 slots at c.index_mut.result.now c.in-Some.other c.requires.shelf within old in
    let new : Some c.args.frame ≡ Some c.unwrap-here.result = sym c.replace.ensures.after ∙ sym (get_or-set_same slots at c.replace.new.dest c.index_mut-2.result.now within) ∙ sym c.index_mut-2.ensures.value ∙ sym c.take.ensures.value ∙ c.unwrap-here.ensures in
    let is : c.args.frame ≡ c.unwrap-here.result = some_is c.args.frame c.unwrap-here.result new in
    let zero_at : 0 + at ≡ at = omega arith in
    c.differ-here.ensures.differ (sym (ap (λ (f : ArenaFrame). f.number) is) ∙ sym c.number-at.ensures.number ∙ sym zero_at ∙ sym there.0)
