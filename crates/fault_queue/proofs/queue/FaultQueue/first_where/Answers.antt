use Rattle.std.proofs.Common.{◌≡◌, ◌<◌, ◌≤◌, Bool, false, Some, length, sym, ap, ◌∙◌, arith}
use Rattle.std.specs.Prelude.{slice_get}
use Rattle.std.proofs.lemmas.List.{get_or_read, take_all, length-map}
use Rattle.index_lists.specs.Lists.{list_at}
use Rattle.page_base.specs.declared.keys.Raise.{Raise}
use Rattle.fault_queue.specs.contracts.queue.FaultQueue.first_where.T-Fn.{words}
use Rattle.fault_queue.specs.InsideQueues.{blank, raise_in, raises_in}
use Rattle.fault_queue.specs.Queues.{QueueSeen}
use Rattle.fault_queue.proofs.First.{first_at, find-first, find-nothing, all_more, raise_at}
use Rattle.fault_queue.proofs.Moves.{numbers_are}
use Rattle.fault_queue.proofs.queue.FaultQueue.first_where.Goals as goal

pub loop-preserved : goal.loop-preserved
loop-preserved g c =
    let q = c.self.inside in
    let slots = q.slots.items in
    let order = list_at q.order 0 in
    let at : slice_get order c.loop.counter ≡ Some c.unwrap-slot.result = sym c.loop.invariant.there ∙ c.unwrap-slot.ensures in
    let there = raise_at slots order c.loop.counter c.unwrap-slot.result at in
    let slot : c.unwrap-slot.result < length slots = rw c.unwrap-slot.ensures at c.loop.invariant.slot in
    let read : c.index-raise.result.now ≡ raise_in slots c.unwrap-slot.result = get_or_read slots c.unwrap-slot.result c.index-raise.result.now slot c.index-raise.ensures blank in
    record {
      there = c.next-at.ensures.exact 0 c.loop.counter at;
      slot = rw (numbers_are q.order (length slots) c.self.invariant.0.dealt c.sound.ensures.sound) at c.next-at.ensures.within;
      before = all_more (λ (r : Raise). (words g.row.T g.T.Fn).post c.args.test r.key r.why false) (raises_in slots order) c.loop.counter blank c.index-raise.result.now there.0 (there.1 ∙ sym read) c.loop.invariant.before c.if-test.ensures;
    }

pub returns-then-test-clause-computed : goal.returns-then-test-clause-computed
returns-then-test-clause-computed g c =
    λ passes computes.
    let q = c.self.inside in
    let slots = q.slots.items in
    let order = list_at q.order 0 in
    let seen : c.args.self.now.raises ≡ raises_in slots order = ap (λ (v : QueueSeen). v.raises) (sym c.self.view_is) in
    let at : slice_get order c.loop.counter ≡ Some c.unwrap-slot.result = sym c.loop.invariant.there ∙ c.unwrap-slot.ensures in
    let there = raise_at slots order c.loop.counter c.unwrap-slot.result at in
    let slot : c.unwrap-slot.result < length slots = rw c.unwrap-slot.ensures at c.loop.invariant.slot in
    let read : c.index-raise.result.now ≡ raise_in slots c.unwrap-slot.result = get_or_read slots c.unwrap-slot.result c.index-raise.result.now slot c.index-raise.ensures blank in
    let answers = λ (r : Raise) (b : Bool). (words g.row.T g.T.Fn).post c.args.test r.key r.why b in
    let first = first_at answers (raises_in slots order) c.loop.counter blank c.index-raise.result.now c.loop.invariant.before there.0 (there.1 ∙ sym read) c.if-test.ensures in
    rw seen (sym (find-first answers passes (raises_in slots order) c.index-raise.result.now (rw seen at computes) first))

pub returns-clause-none : goal.returns-clause-none
returns-clause-none g c =
    let q = c.self.inside in
    let slots = q.slots.items in
    let order = list_at q.order 0 in
    let seen : c.args.self.now.raises ≡ raises_in slots order = ap (λ (v : QueueSeen). v.raises) (sym c.self.view_is) in
    let all : length (raises_in slots order) ≤ c.loop.counter = omega (arith, length-map order (raise_in slots), c.self.invariant.0.counted, c.loop-test.false) in
    rw seen (rw (take_all c.loop.counter (raises_in slots order) all) at c.loop.invariant.before)

pub returns-clause-computed : goal.returns-clause-computed
returns-clause-computed g c =
    λ passes computes.
    let q = c.self.inside in
    let slots = q.slots.items in
    let order = list_at q.order 0 in
    let seen : c.args.self.now.raises ≡ raises_in slots order = ap (λ (v : QueueSeen). v.raises) (sym c.self.view_is) in
    let all : length (raises_in slots order) ≤ c.loop.counter = omega (arith, length-map order (raise_in slots), c.self.invariant.0.counted, c.loop-test.false) in
    let answers = λ (r : Raise) (b : Bool). (words g.row.T g.T.Fn).post c.args.test r.key r.why b in
    rw seen (sym (find-nothing answers passes (raises_in slots order) (rw seen at computes) (rw (take_all c.loop.counter (raises_in slots order) all) at c.loop.invariant.before)))
