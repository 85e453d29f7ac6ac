use Rattle.std.proofs.Common.{◌≡◌, length, arith, ap}
use Rattle.index_lists.specs.Lists.{ListsSeen, list_at}
use Rattle.fault_queue.proofs.Grouped.{grouped_empty}
use Rattle.fault_queue.proofs.Moves.{sound_empty}
use Rattle.std.proofs.lemmas.Grind.{common_steps}
use Rattle.fault_queue.proofs.Walks.{not_yet}
use Rattle.fault_queue.proofs.queue.FaultQueue.new.Goals as goal

pub push_back-requires-clause-fresh : goal.push_back-requires-clause-fresh
push_back-requires-clause-fresh c = not_yet c.loop-slot.order c.args.capacity c.loop-slot.slot c.loop-slot.invariant

pub invariant_of-result : goal.invariant_of-result
invariant_of-result c =
    let many : length c.in_ok-slots.slots.items ≡ c.args.capacity = grind (arith, common_steps) in
    let some = c.requires.some in
    let few = c.if-capacity-gt-MOST_SLOTS.false in
    let end = c.loop-slot-test.false in
    let no_more = c.loop-slot.auto.slot-end in
    let many_stamps : length c.in_ok-stamps.stamps.items ≡ c.args.capacity = grind (arith, common_steps) in (
      sound_empty c.in_ok-slots.slots.items c.loop-slot.order c.in_ok-chains.chains c.args.capacity c.loop-slot.slot many some (omega (arith, few)) c.in_ok-chains.ensures.empty c.loop-slot.invariant (omega (arith, end, no_more)),
      grouped_empty c.in_ok-slots.slots.items (list_at c.loop-slot.order 0) c.in_ok-groups.groups c.in_ok-stamps.stamps.items c.args.capacity many many_stamps (ap (λ (o : ListsSeen). list_at o 0) c.loop-slot.invariant.two) c.in_ok-groups.ensures.empty,
    )
