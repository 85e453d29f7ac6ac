use Rattle.std.proofs.Common.{◌≡◌, ◌<◌, Some, IsSome, find, length, sym, ap, ◌∙◌}
use Rattle.std.specs.Option.{option_map}
use Rattle.std.proofs.lemmas.List.{get_or_read}
use Rattle.page_base.specs.declared.keys.Raise.{Raise}
use Rattle.index_lists.specs.Lists.{ListsSeen, list_at}
use Rattle.fault_queue.proofs.Grouped.{some_group, grouped_left}
use Rattle.fault_queue.specs.Queues.{pending_why}
use Rattle.fault_queue.specs.InsideQueues.{blank, raise_in, raises_in, holds, bucket_of}
use Rattle.fault_queue.proofs.Moves.{found, mapped_some, chains_many, chain_short, found_by_chain, pending_found, stands_queued, nowhere, in_chain, left_seen, sound_left, to_free}
use Rattle.fault_queue.proofs.queue.FaultQueue.withdraw.Goals as goal

pub slot_of-requires-clause-lists : goal.slot_of-requires-clause-lists
slot_of-requires-clause-lists c = let q = c.self.inside in chains_many q.slots.items q.order q.chains q.count c.self.invariant.0 ∙ sym (ap length c.deref.ensures.value)

pub slot_of-requires-clause-short : goal.slot_of-requires-clause-short
slot_of-requires-clause-short c =
    let q = c.self.inside in
    rw c.deref.ensures.value (chain_short q.slots.items q.order q.chains q.count c.self.invariant.0 c.args.key)

pub unwrap-slot-requires : goal.unwrap-slot-requires
unwrap-slot-requires c =
    let q = c.self.inside in
    let pending : IsSome (pending_why (raises_in q.slots.items (list_at q.order 0)) c.args.key) = rw (← c.self.view_is) at c.requires.pending in
    let exact = rw c.deref.ensures.value at c.slot_of.ensures.exact in
    let found_ : IsSome (option_map (λ slot. (raise_in q.slots.items slot).why) (find (holds q.slots.items c.args.key) (list_at q.order 0))) = rw (pending_found q.slots.items q.order q.chains q.count c.self.invariant.0 c.args.key) at pending in
    rw (exact, found_by_chain q.slots.items q.order q.chains q.count c.self.invariant.0 c.args.key) (mapped_some (λ slot. (raise_in q.slots.items slot).why) (find (holds q.slots.items c.args.key) (list_at q.order 0)) found_)

pub remove-requires : goal.remove-requires
remove-requires c =
    let q = c.self.inside in
    let exact = rw c.deref.ensures.value at c.slot_of.ensures.exact in
    let chain : find (holds q.slots.items c.args.key) (list_at q.chains (bucket_of (length q.slots.items) c.args.key)) ≡ Some c.unwrap-slot.result = sym exact ∙ c.unwrap-slot.ensures in
    let is : find (holds q.slots.items c.args.key) (list_at q.order 0) ≡ Some c.unwrap-slot.result = sym (found_by_chain q.slots.items q.order q.chains q.count c.self.invariant.0 c.args.key) ∙ chain in
    record { stands = stands_queued q.order (length q.slots.items) c.self.invariant.0.dealt c.sound.ensures.sound c.unwrap-slot.result (found (holds q.slots.items c.args.key) (list_at q.order 0) c.unwrap-slot.result is).1 }

pub push_back-requires-clause-fresh : goal.push_back-requires-clause-fresh
push_back-requires-clause-fresh c =
    let q = c.self.inside in
    rw c.remove.ensures.removed (nowhere q.order (length q.slots.items) c.self.invariant.0.dealt c.sound.ensures.sound c.unwrap-slot.result)

pub remove-requires-2 : goal.remove-requires-2
remove-requires-2 c =
    let q = c.self.inside in
    let exact = rw c.deref.ensures.value at c.slot_of.ensures.exact in
    let chain : find (holds q.slots.items c.args.key) (list_at q.chains (bucket_of (length q.slots.items) c.args.key)) ≡ Some c.unwrap-slot.result = sym exact ∙ c.unwrap-slot.ensures in
    record { stands = in_chain q.slots.items q.order q.chains q.count c.self.invariant.0 c.args.key c.unwrap-slot.result chain }

pub remove-requires-3 : goal.remove-requires-3
remove-requires-3 c =
    let q = c.self.inside in
    let exact = rw c.deref.ensures.value at c.slot_of.ensures.exact in
    let is : find (holds q.slots.items c.args.key) (list_at q.order 0) ≡ Some c.unwrap-slot.result = sym (found_by_chain q.slots.items q.order q.chains q.count c.self.invariant.0 c.args.key) ∙ (sym exact ∙ c.unwrap-slot.ensures) in
    record { stands = some_group q.slots.items (list_at q.order 0) q.groups q.stamps.items q.told c.self.invariant.1 c.unwrap-slot.result (found (holds q.slots.items c.args.key) (list_at q.order 0) c.unwrap-slot.result is).1 }

pub invariant_of-self : goal.invariant_of-self
invariant_of-self c =
    let q = c.self.inside in
    let exact = rw c.deref.ensures.value at c.slot_of.ensures.exact in
    let is : find (holds q.slots.items c.args.key) (list_at q.order 0) ≡ Some c.unwrap-slot.result = sym (found_by_chain q.slots.items q.order q.chains q.count c.self.invariant.0 c.args.key) ∙ (sym exact ∙ c.unwrap-slot.ensures) in
    let there = (found (holds q.slots.items c.args.key) (list_at q.order 0) c.unwrap-slot.result is).1 in
    let after = ap (λ (o : ListsSeen). list_at o 0) (to_free q.order (length q.slots.items) c.self.invariant.0.dealt c.sound.ensures.sound c.unwrap-slot.result there) in (
      rw (c.push_back.ensures.pushed, c.remove.ensures.removed, c.remove-2.ensures.removed)
          (sound_left q.slots.items q.order q.chains q.count c.self.invariant.0 c.sound.ensures.sound c.unwrap-slot.result c.args.key is),
      rw (c.push_back.ensures.pushed, c.remove.ensures.removed, c.remove-3.ensures.removed, after)
          (grouped_left q.slots.items (list_at q.order 0) q.groups q.stamps.items q.told c.self.invariant.1 c.unwrap-slot.result),
    )

pub returns-clause-why : goal.returns-clause-why
returns-clause-why c =
    let q = c.self.inside in
    let exact = rw c.deref.ensures.value at c.slot_of.ensures.exact in
    let is : find (holds q.slots.items c.args.key) (list_at q.order 0) ≡ Some c.unwrap-slot.result = sym (found_by_chain q.slots.items q.order q.chains q.count c.self.invariant.0 c.args.key) ∙ (sym exact ∙ c.unwrap-slot.ensures) in
    let within : c.unwrap-slot.result < length q.slots.items = rw (c.unwrap-slot.ensures, c.deref.ensures.value) at c.slot_of.ensures.within in
    let read : c.index.result.now ≡ raise_in q.slots.items c.unwrap-slot.result = get_or_read q.slots.items c.unwrap-slot.result c.index.result.now within c.index.ensures blank in
    rw (← c.self.view_is) (pending_found q.slots.items q.order q.chains q.count c.self.invariant.0 c.args.key ∙ (ap (option_map (λ slot. (raise_in q.slots.items slot).why)) is ∙ ap (λ (r : Raise). Some r.why) (sym read)))

pub returns-clause-others : goal.returns-clause-others
returns-clause-others c =
    let q = c.self.inside in
    let exact = rw c.deref.ensures.value at c.slot_of.ensures.exact in
    let is : find (holds q.slots.items c.args.key) (list_at q.order 0) ≡ Some c.unwrap-slot.result = sym (found_by_chain q.slots.items q.order q.chains q.count c.self.invariant.0 c.args.key) ∙ (sym exact ∙ c.unwrap-slot.ensures) in
    let seen = left_seen q.slots.items q.order q.chains q.count c.self.invariant.0 c.sound.ensures.sound c.unwrap-slot.result c.args.key is in
    rw (c.push_back.ensures.pushed, c.remove.ensures.removed, ← c.self.view_is) (λ i. record { raises = seen i; capacity = length q.slots.items })
