use Rattle.std.proofs.Common.{ℕ, Bool, ◌≡◌, ◌<◌, length, find, IfSome}
use Rattle.index_lists.specs.Lists.{list_at}
use Rattle.fault_queue.specs.InsideQueues.{raises_in}
use Rattle.fault_queue.specs.Queues.{Computes, of_group, passes_by}
use Rattle.fault_queue.proofs.Among.{passes_below}
use Rattle.fault_queue.proofs.queue.FaultQueue.first_among.Given as goal

abbrev pub invariant-loop-group : goal.invariant-loop-group
invariant-loop-group g l = record {
  best : (passes : ℕ → Bool → Bool) → Computes (of_group (goal.T-post g l.test)) (passes_by passes) (raises_in l.self-inside.slots.items (list_at l.self-inside.order 0))
      → l.best ≡ find (passes_below l.self-inside.slots.items passes l.group) (list_at l.self-inside.order 0);
  within : IfSome l.best (λ b. b < length l.self-inside.slots.items);
}
