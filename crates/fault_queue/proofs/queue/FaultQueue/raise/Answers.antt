use Rattle.std.proofs.Common.{◌≡◌, ◌<◌, None, length, sym, ap, ◌∙◌, arith}
use Rattle.index_lists.specs.Lists.{list_at}
use Rattle.page_base.specs.declared.keys.Raise.{Raise}
use Rattle.fault_queue.specs.Queues.{pending_why}
use Rattle.std.proofs.lemmas.List.{length-set}
use Rattle.index_lists.specs.Lists.{ListsSeen}
use Rattle.fault_queue.specs.InsideQueues.{raises_in, bucket_of, fault_group}
use Rattle.fault_queue.proofs.Counts.{count}
use Rattle.fault_queue.proofs.Grouped.{no_group, grouped_raised}
use Rattle.fault_queue.proofs.Once.{find-none}
use Rattle.fault_queue.proofs.Moves.{count_at, stands_free, nowhere, numbers_are, no_chain, chains_many, raised_seen, sound_raised, fresh_slot, to_queue}
use Rattle.fault_queue.proofs.queue.FaultQueue.raise.Goals as goal

pub remove-requires : goal.remove-requires
remove-requires c =
    let q = c.self.inside in
    let there = count_at c.in-Some.slot (list_at q.order 1) 0 (sym c.in-Some.ensures.exact) in
    record { stands = stands_free q.order (length q.slots.items) c.self.invariant.0.dealt c.sound.ensures.sound c.in-Some.slot there }

pub push_back-requires-clause-fresh : goal.push_back-requires-clause-fresh
push_back-requires-clause-fresh c =
    let q = c.self.inside in
    rw c.remove.ensures.removed (nowhere q.order (length q.slots.items) c.self.invariant.0.dealt c.sound.ensures.sound c.in-Some.slot)

pub push_back-requires-2-clause-list : goal.push_back-requires-2-clause-list
push_back-requires-2-clause-list c =
    let q = c.self.inside in
    omega (arith, chains_many q.slots.items q.order q.chains q.count c.self.invariant.0, c.bucket-bucket.ensures.below, c.len.ensures, q.slots.ok.0)

pub push_back-requires-2-clause-fresh : goal.push_back-requires-2-clause-fresh
push_back-requires-2-clause-fresh c =
    let q = c.self.inside in
    let there = count_at c.in-Some.slot (list_at q.order 1) 0 (sym c.in-Some.ensures.exact) in
    let within : c.in-Some.slot < length q.slots.items = omega (arith, numbers_are q.order (length q.slots.items) c.self.invariant.0.dealt c.sound.ensures.sound, c.in-Some.ensures.within) in
    no_chain q.slots.items q.order q.chains q.count c.self.invariant.0 c.sound.ensures.sound c.in-Some.slot (record { key = c.args.key; why = c.args.why }) there within

pub push_back-requires-3-clause-fresh : goal.push_back-requires-3-clause-fresh
push_back-requires-3-clause-fresh c =
    let q = c.self.inside in
    let there = count_at c.in-Some.slot (list_at q.order 1) 0 (sym c.in-Some.ensures.exact) in
    let within : c.in-Some.slot < length q.slots.items = omega (arith, numbers_are q.order (length q.slots.items) c.self.invariant.0.dealt c.sound.ensures.sound, c.in-Some.ensures.within) in
    no_group q.slots.items (list_at q.order 0) q.groups q.stamps.items q.told c.self.invariant.1 c.in-Some.slot (fresh_slot q.slots.items q.order q.chains q.count c.self.invariant.0 c.sound.ensures.sound c.in-Some.slot (record { key = c.args.key; why = c.args.why }) there within)

pub invariant_of-self : goal.invariant_of-self
invariant_of-self c =
    let q = c.self.inside in
    let there = count_at c.in-Some.slot (list_at q.order 1) 0 (sym c.in-Some.ensures.exact) in
    let within : c.in-Some.slot < length q.slots.items = omega (arith, numbers_are q.order (length q.slots.items) c.self.invariant.0.dealt c.sound.ensures.sound, c.in-Some.ensures.within) in
    let fresh : pending_why (raises_in q.slots.items (list_at q.order 0)) c.args.key ≡ None = rw (← c.self.view_is) at c.requires.fresh in
    let bucket : c.bucket-bucket.result ≡ bucket_of (length q.slots.items) c.args.key = c.bucket-bucket.ensures.exact ∙ ap (λ n. bucket_of n c.args.key) (c.len.ensures ∙ q.slots.ok.0) in
    let raise : Raise = record { key = c.args.key; why = c.args.why } in
    let kind : c.group.result ≡ fault_group raise = c.group.ensures.exact in
    let unused : count c.in-Some.slot (list_at q.order 0) ≡ 0 = fresh_slot q.slots.items q.order q.chains q.count c.self.invariant.0 c.sound.ensures.sound c.in-Some.slot raise there within in
    let after = ap (λ (o : ListsSeen). list_at o 0) (to_queue q.order (length q.slots.items) c.self.invariant.0.dealt c.sound.ensures.sound c.in-Some.slot there) in (
      rw (c.push_back.ensures.pushed, c.remove.ensures.removed, c.push_back-2.ensures.pushed, bucket)
          (sound_raised q.slots.items q.order q.chains q.count c.self.invariant.0 c.sound.ensures.sound c.in-Some.slot raise there within (find-none (raises_in q.slots.items (list_at q.order 0)) c.args.key fresh)),
      rw (c.push_back.ensures.pushed, c.remove.ensures.removed, c.push_back-3.ensures.pushed, kind, after)
          (grouped_raised q.slots.items (list_at q.order 0) q.groups q.stamps.items q.told c.self.invariant.1 c.in-Some.slot c.saturating_add-self-inside.result raise within unused (λ lt. omega (arith, c.saturating_add-self-inside.ensures, lt))),
    )

pub returns-clause-ok : goal.returns-clause-ok
returns-clause-ok c =
    let q = c.self.inside in
    let there = count_at c.in-Some.slot (list_at q.order 1) 0 (sym c.in-Some.ensures.exact) in
    let within : c.in-Some.slot < length q.slots.items = omega (arith, numbers_are q.order (length q.slots.items) c.self.invariant.0.dealt c.sound.ensures.sound, c.in-Some.ensures.within) in
    let raise : Raise = record { key = c.args.key; why = c.args.why } in
    let seen = raised_seen q.slots.items q.order q.chains q.count c.self.invariant.0 c.sound.ensures.sound c.in-Some.slot raise there within in
    let many = length-set q.slots.items c.in-Some.slot raise in
    rw (c.push_back.ensures.pushed, c.remove.ensures.removed, ← c.self.view_is) (λ i. record { raises = seen i; capacity = many i })
