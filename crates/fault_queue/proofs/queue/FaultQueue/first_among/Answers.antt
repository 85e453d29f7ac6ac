use Rattle.std.proofs.Common.{◌≡◌, ◌<◌, ◌+◌, ◌∙◌, ℕ, Bool, true, false, None, Some, length, find, sym, ap, subst, arith}
use Rattle.std.specs.Option.{option_map}
use Rattle.std.proofs.lemmas.List.{get_or_read}
use Rattle.index_lists.specs.Lists.{list_at}
use Rattle.fault_queue.specs.contracts.queue.FaultQueue.first_among.T-Fn.{words}
use Rattle.fault_queue.specs.InsideQueues.{blank, raise_in, is_in_group, earlier}
use Rattle.fault_queue.specs.Queues.{group_region, opens, raise_of}
use Rattle.std.specs.List.{Contains}
use Rattle.fault_queue.proofs.Among.{head_is, none_below, next_none, next_passes, next_fails, all_groups, earlier_within, contained, passes_at, passes_below}
use Rattle.fault_queue.proofs.Grouped.{groups_number}
use Rattle.fault_queue.proofs.queue.FaultQueue.first_among.Goals as goal
use Rattle.fault_queue.proofs.queue.FaultQueue.first_among.Goals.{in-Some+then-test, in-Some+else-test, in_default}

pub test-requires : goal.test-requires
test-requires g c =
    let q = c.self.inside in
    let slots = q.slots.items in
    let order = list_at q.order 0 in
    let slot : c.in-Some.slot < length slots = rw (groups_number slots order q.groups q.stamps.items q.told c.self.invariant.1) at c.in-Some.ensures.within in
    let read : c.index-raise.result.now ≡ raise_in slots c.in-Some.slot = get_or_read slots c.in-Some.slot c.index-raise.result.now slot c.index-raise.ensures blank in
    let head : find (is_in_group slots c.loop-group.group) order ≡ Some c.in-Some.slot =
    sym (head_is slots order q.groups q.stamps.items q.told c.self.invariant.1 c.loop-group.group (omega (arith, c.loop-group-test.true))) ∙ sym c.in-Some.ensures.exact in
    let in_queue : Contains c.args.self.now.raises c.index-raise.result.now = rw (← c.self.view_is, read) (contained slots (is_in_group slots c.loop-group.group) order c.in-Some.slot head) in
    let r = c.index-raise.result.now in
    let P : ℕ → Bool → Type 0 = λ n b. (words g.row.T g.T.Fn).pre c.args.test n b in
    subst (λ n. P n c.is_opening.result) (sym (c.region_of.ensures.exact r.why)) (subst (P (group_region r)) (sym (c.is_opening.ensures.exact r.key)) (c.requires.callable r in_queue))

pub loop-group-init : goal.loop-group-init
loop-group-init g c = record { best = λ passes computes. sym (none_below c.self.inside.slots.items (list_at c.self.inside.order 0) passes); within = tt }

pub loop-group-preserved : goal.loop-group-preserved
loop-group-preserved g c =
    let q = c.self.inside in
    let slots = q.slots.items in
    let order = list_at q.order 0 in
    let group = c.loop-group.group in
    let rising = c.self.invariant.1.rising (omega (arith, c.if-self-ge-NO_STAMP.false)) in
    let at : c.first.result ≡ find (is_in_group slots group) order = c.first.ensures.exact ∙ head_is slots order q.groups q.stamps.items q.told c.self.invariant.1 group (omega (arith, c.loop-group-test.true)) in
    elim c.match-first.branch [
      | in-Some+then-test w ↦
          let slot : w.in-Some.slot < length slots = rw (groups_number slots order q.groups q.stamps.items q.told c.self.invariant.1) at w.in-Some.ensures.within in
          let read : w.index-raise.result.now ≡ raise_in slots w.in-Some.slot = get_or_read slots w.in-Some.slot w.index-raise.result.now slot w.index-raise.ensures blank in
          let head : find (is_in_group slots group) order ≡ Some w.in-Some.slot = sym at ∙ w.in-Some.is in
          let there = contained slots (is_in_group slots group) order w.in-Some.slot head in
          let r = w.index-raise.result.now in
          let P : ℕ → Bool → Bool → Type 0 = λ n d. (words g.row.T g.T.Fn).post c.args.test n d in
          let told_ : P (group_region r) (opens r) w.test.result = subst (λ n. P n (opens r) w.test.result) (w.region_of.ensures.exact r.why) (subst (λ d. P w.region_of.result d w.test.result) (w.is_opening.ensures.exact r.key) w.test.ensures) in
          let answer : P (group_region (raise_in slots w.in-Some.slot)) (opens (raise_in slots w.in-Some.slot)) true = rw (← read, ← w.if-test.true) told_ in
          record {
            best = λ passes computes.
                let gives : passes_at slots passes w.in-Some.slot ≡ true = sym (computes (raise_in slots w.in-Some.slot) true there answer) in
                w.best-is
                ∙ (ap (λ n. Some n) (w.earlier.ensures.exact ∙ (ap (λ xs. earlier xs c.loop-group.best w.in-Some.slot) w.deref.ensures.value ∙ ap (λ o. earlier q.stamps.items o w.in-Some.slot) (c.loop-group.invariant.best passes computes)))
                ∙ sym (next_passes slots order q.stamps.items q.told rising passes group w.in-Some.slot head gives));
            within = rw (w.best-is, w.earlier.ensures.exact) (earlier_within w.deref.result.now (length slots) c.loop-group.best w.in-Some.slot c.loop-group.invariant.within slot);
          }
      | in-Some+else-test w ↦
          let slot : w.in-Some.slot < length slots = rw (groups_number slots order q.groups q.stamps.items q.told c.self.invariant.1) at w.in-Some.ensures.within in
          let read : w.index-raise.result.now ≡ raise_in slots w.in-Some.slot = get_or_read slots w.in-Some.slot w.index-raise.result.now slot w.index-raise.ensures blank in
          let head : find (is_in_group slots group) order ≡ Some w.in-Some.slot = sym at ∙ w.in-Some.is in
          let there = contained slots (is_in_group slots group) order w.in-Some.slot head in
          let r = w.index-raise.result.now in
          let P : ℕ → Bool → Bool → Type 0 = λ n d. (words g.row.T g.T.Fn).post c.args.test n d in
          let told_ : P (group_region r) (opens r) w.test.result = subst (λ n. P n (opens r) w.test.result) (w.region_of.ensures.exact r.why) (subst (λ d. P w.region_of.result d w.test.result) (w.is_opening.ensures.exact r.key) w.test.ensures) in
          let answer : P (group_region (raise_in slots w.in-Some.slot)) (opens (raise_in slots w.in-Some.slot)) false = rw (← read, ← w.if-test.false) told_ in
          record {
            best = λ passes computes.
                let gives : passes_at slots passes w.in-Some.slot ≡ false = sym (computes (raise_in slots w.in-Some.slot) false there answer) in
                w.best-is ∙ (c.loop-group.invariant.best passes computes ∙ next_fails slots order q.stamps.items q.told rising passes group w.in-Some.slot head gives);
            within = rw w.best-is c.loop-group.invariant.within;
          }
      | in_default w ↦ record {
        best = λ passes computes. w.best-is ∙ (c.loop-group.invariant.best passes computes ∙ next_none slots order q.stamps.items q.told rising passes group (sym at ∙ w.in_default.is));
        within = rw w.best-is c.loop-group.invariant.within;
      }
    ]

pub returns-in_err-best : goal.returns-in_err-best
returns-in_err-best g c =
    let q = c.self.inside in
    let slots = q.slots.items in
    let order = list_at q.order 0 in
    let all : c.loop-group.group ≡ 128 = omega (arith, c.loop-group-test.false, c.loop-group.auto.group-end) in
    record {
      computed = rw (← c.self.view_is) (λ passes computes.
          let best : None ≡ find (passes_below slots passes 128) order = sym c.in_err-best.was ∙ (c.loop-group.invariant.best passes computes ∙ ap (λ n. find (passes_below slots passes n) order) all) in
          ap (option_map raise_of) c.from_residual.ensures ∙ (ap (option_map (raise_in slots)) best ∙ all_groups slots order passes));
    }

pub returns : goal.returns
returns g c =
    let q = c.self.inside in
    let slots = q.slots.items in
    let order = list_at q.order 0 in
    let all : c.loop-group.group ≡ 128 = omega (arith, c.loop-group-test.false, c.loop-group.auto.group-end) in
    record {
      computed = rw (← c.self.view_is) (λ passes computes.
          let best : Some c.in_ok-best.field-0 ≡ find (passes_below slots passes 128) order = sym c.in_ok-best.was ∙ (c.loop-group.invariant.best passes computes ∙ ap (λ n. find (passes_below slots passes n) order) all) in
          let slot : c.in_ok-best.field-0 < length slots = rw c.in_ok-best.was at c.loop-group.invariant.within in
          let read : c.index-raise-2.result.now ≡ raise_in slots c.in_ok-best.field-0 = get_or_read slots c.in_ok-best.field-0 c.index-raise-2.result.now slot c.index-raise-2.ensures blank in
          ap (λ r. Some r) read ∙ (ap (option_map (raise_in slots)) best ∙ all_groups slots order passes));
    }
