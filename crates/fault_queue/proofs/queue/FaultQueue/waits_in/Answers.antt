use Rattle.std.proofs.Common.{◌≡◌, ◌∙◌, ◌+◌, ap, sym, is_some, arith, true, false, find}
use Rattle.std.specs.Prelude.{slice_get}
use Rattle.index_lists.specs.Lists.{list_at}
use Rattle.fault_queue.specs.InsideQueues.{is_in_group}
use Rattle.fault_queue.proofs.Among.{head_is, waits_either, or_left, or_right}
use Rattle.fault_queue.proofs.Grouped.{groups_many}
use Rattle.fault_queue.proofs.queue.FaultQueue.waits_in.Goals as goal

pub first-requires : goal.first-requires
first-requires c =
    let q = c.self.inside in
    let many = groups_many q.slots.items (list_at q.order 0) q.groups q.stamps.items q.told c.self.invariant.1 in
    record { within = omega (arith, many, c.from.ensures, c.requires.few) }

pub returns-then-is_some : goal.returns-then-is_some
returns-then-is_some c =
    let q = c.self.inside in
    let slots = q.slots.items in
    let order = list_at q.order 0 in
    let one = c.first.ensures.exact ∙ (ap (λ n. slice_get (list_at q.groups n) 0) c.from.ensures ∙ head_is slots order q.groups q.stamps.items q.told c.self.invariant.1 c.args.region (omega (arith, c.requires.few))) in
    let yes : is_some (find (is_in_group slots c.args.region) order) ≡ true = sym (ap is_some one) ∙ (sym c.is_some.ensures ∙ c.if-is_some.true) in
    let both = sym (or_left (is_some (find (is_in_group slots c.args.region) order)) (is_some (find (is_in_group slots (64 + c.args.region)) order)) yes) ∙ waits_either slots order c.args.region c.requires.few in
    record { exact = rw (← c.self.view_is) (c.if-is_some.true ∙ both) }

pub returns-else-is_some : goal.returns-else-is_some
returns-else-is_some c =
    let q = c.self.inside in
    let slots = q.slots.items in
    let order = list_at q.order 0 in
    let one = c.first.ensures.exact ∙ (ap (λ n. slice_get (list_at q.groups n) 0) c.from.ensures ∙ head_is slots order q.groups q.stamps.items q.told c.self.invariant.1 c.args.region (omega (arith, c.requires.few))) in
    let two = c.first-else-is_some.ensures.exact ∙ (ap (λ n. slice_get (list_at q.groups (64 + n)) 0) c.from-else-is_some.ensures ∙ head_is slots order q.groups q.stamps.items q.told c.self.invariant.1 (64 + c.args.region) (omega (arith, c.requires.few))) in
    let no : is_some (find (is_in_group slots c.args.region) order) ≡ false = sym (ap is_some one) ∙ (sym c.is_some.ensures ∙ c.if-is_some.false) in
    let both = sym (or_right (is_some (find (is_in_group slots c.args.region) order)) (is_some (find (is_in_group slots (64 + c.args.region)) order)) no) ∙ waits_either slots order c.args.region c.requires.few in
    record { exact = rw (← c.self.view_is) (c.is_some-else-is_some.ensures ∙ (ap is_some two ∙ both)) }
