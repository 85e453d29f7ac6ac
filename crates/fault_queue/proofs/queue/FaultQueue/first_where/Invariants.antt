use Rattle.std.proofs.Common.{All, take, false, ◌≡◌, ◌<◌, length, IfSome}
use Rattle.std.specs.Prelude.{slice_get}
use Rattle.index_lists.specs.Lists.{list_at}
use Rattle.page_base.specs.declared.keys.Raise.{Raise}
use Rattle.fault_queue.specs.InsideQueues.{raises_in}
use Rattle.fault_queue.proofs.queue.FaultQueue.first_where.Given as goal

abbrev pub invariant-loop : goal.invariant-loop
invariant-loop g l = record {
  there : l.at ≡ slice_get (list_at l.self-inside.order 0) l.counter;
  slot : IfSome l.at (λ slot. slot < length l.self-inside.slots.items);
  before : All (λ (q : Raise). goal.T-post g l.test q.key q.why false) (take l.counter (raises_in l.self-inside.slots.items (list_at l.self-inside.order 0)));
}
