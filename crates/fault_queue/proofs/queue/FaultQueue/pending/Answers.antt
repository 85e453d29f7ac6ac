use Rattle.std.proofs.Common.{◌≡◌, ◌<◌, None, Some, find, length, sym, ap, ◌∙◌}
use Rattle.std.specs.Option.{option_map}
use Rattle.std.proofs.lemmas.List.{get_or_read}
use Rattle.page_base.specs.declared.keys.Raise.{Raise}
use Rattle.index_lists.specs.Lists.{list_at}
use Rattle.fault_queue.specs.InsideQueues.{blank, raise_in, holds}
use Rattle.fault_queue.proofs.Moves.{chains_many, chain_short, found_by_chain, pending_found}
use Rattle.fault_queue.proofs.queue.FaultQueue.pending.Goals as goal

pub slot_of-requires-clause-lists : goal.slot_of-requires-clause-lists
slot_of-requires-clause-lists c = let q = c.self.inside in chains_many q.slots.items q.order q.chains q.count c.self.invariant.0 ∙ sym (ap length c.deref.ensures.value)

pub slot_of-requires-clause-short : goal.slot_of-requires-clause-short
slot_of-requires-clause-short c =
    let q = c.self.inside in
    rw c.deref.ensures.value (chain_short q.slots.items q.order q.chains q.count c.self.invariant.0 c.args.key)

pub returns-in_err-slot : goal.returns-in_err-slot
returns-in_err-slot c =
    let q = c.self.inside in
    let exact = rw c.deref.ensures.value at c.in_err-slot.ensures.exact in
    let none : find (holds q.slots.items c.args.key) (list_at q.order 0) ≡ None = sym (found_by_chain q.slots.items q.order q.chains q.count c.self.invariant.0 c.args.key) ∙ sym exact in
    let why = pending_found q.slots.items q.order q.chains q.count c.self.invariant.0 c.args.key ∙ ap (option_map (λ slot. (raise_in q.slots.items slot).why)) none in
    record { exact = rw (← c.self.view_is) (c.from_residual.ensures ∙ sym why) }

pub returns : goal.returns
returns c =
    let q = c.self.inside in
    let exact = rw c.deref.ensures.value at c.in_ok-slot.ensures.exact in
    let is : find (holds q.slots.items c.args.key) (list_at q.order 0) ≡ Some c.in_ok-slot.slot = sym (found_by_chain q.slots.items q.order q.chains q.count c.self.invariant.0 c.args.key) ∙ sym exact in
    let within : c.in_ok-slot.slot < length q.slots.items = rw c.deref.ensures.value at c.in_ok-slot.ensures.within in
    let read : c.index.result.now ≡ raise_in q.slots.items c.in_ok-slot.slot = get_or_read q.slots.items c.in_ok-slot.slot c.index.result.now within c.index.ensures blank in
    let why = pending_found q.slots.items q.order q.chains q.count c.self.invariant.0 c.args.key ∙ ap (option_map (λ slot. (raise_in q.slots.items slot).why)) is in
    record { exact = rw (← c.self.view_is) (ap (λ (r : Raise). Some r.why) read ∙ sym why) }
