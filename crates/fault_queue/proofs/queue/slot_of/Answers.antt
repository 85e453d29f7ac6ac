use Rattle.std.proofs.Common.{◌≡◌, ◌∙◌, None, Some, true, false, length, arith, sym}
use Rattle.index_lists.specs.Lists.{list_at}
use Rattle.fault_queue.specs.InsideQueues.{bucket_of, holds, raise_in}
use Rattle.fault_queue.proofs.Keys.{compared}
use Rattle.fault_queue.proofs.Walks.{HasCome, finds, goes_on, ends, none_ends}
use Rattle.fault_queue.proofs.queue.slot_of.Goals as goal

pub returns-in_err-slot-clause-exact : goal.returns-in_err-slot-clause-exact
returns-in_err-slot-clause-exact c =
    let chain = list_at c.args.chains.now (bucket_of (length c.args.slots.now) c.args.key) in
    let come : HasCome (holds c.args.slots.now c.args.key) chain c.loop.counter None = rw c.in_err-slot.was at c.loop.invariant.come in
    c.from_residual.ensures ∙ none_ends (holds c.args.slots.now c.args.key) chain c.loop.counter come

pub returns-then-eq-clause-exact : goal.returns-then-eq-clause-exact
returns-then-eq-clause-exact c =
    let chain = list_at c.args.chains.now (bucket_of (length c.args.slots.now) c.args.key) in
    let come : HasCome (holds c.args.slots.now c.args.key) chain c.loop.counter (Some c.in_ok-slot.slot) = rw c.in_ok-slot.was at c.loop.invariant.come in
    let held : holds c.args.slots.now c.args.key c.in_ok-slot.slot ≡ true = sym (compared (raise_in c.args.slots.now c.in_ok-slot.slot).key c.args.key) ∙ (sym c.eq.ensures ∙ c.if-eq.true) in
    finds (holds c.args.slots.now c.args.key) chain c.loop.counter c.in_ok-slot.slot come held

pub loop-preserved : goal.loop-preserved
loop-preserved c =
    let chain = list_at c.args.chains.now (bucket_of (length c.args.slots.now) c.args.key) in
    let come : HasCome (holds c.args.slots.now c.args.key) chain c.loop.counter (Some c.in_ok-slot.slot) = rw c.in_ok-slot.was at c.loop.invariant.come in
    let fails : holds c.args.slots.now c.args.key c.in_ok-slot.slot ≡ false = sym (compared (raise_in c.args.slots.now c.in_ok-slot.slot).key c.args.key) ∙ (sym c.eq.ensures ∙ c.if-eq.false) in
    record {
      come = goes_on (holds c.args.slots.now c.args.key) chain c.loop.counter c.in_ok-slot.slot come fails c.next-at.result (c.next-at.ensures.exact (bucket_of (length c.args.slots.now) c.args.key) c.loop.counter (sym come.there));
      slot = rw c.requires.numbers at c.next-at.ensures.within;
    }

pub returns-clause-exact : goal.returns-clause-exact
returns-clause-exact c =
    let chain = list_at c.args.chains.now (bucket_of (length c.args.slots.now) c.args.key) in
    ends (holds c.args.slots.now c.args.key) chain c.loop.counter c.loop.at c.loop.invariant.come (omega (arith, c.requires.short, c.loop-test.false))
