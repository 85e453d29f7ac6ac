use Rattle.std.proofs.Common.{◌<◌, length, IfSome}
use Rattle.index_lists.specs.Lists.{list_at}
use Rattle.fault_queue.specs.InsideQueues.{bucket_of, holds}
use Rattle.fault_queue.proofs.Walks.{HasCome}
use Rattle.fault_queue.proofs.queue.slot_of.Given as goal

abbrev pub invariant-loop : goal.invariant-loop
invariant-loop l = record {
  come : HasCome (holds l.slots l.key) (list_at l.chains (bucket_of (length l.slots) l.key)) l.counter l.at;
  slot : IfSome l.at (λ slot. slot < length l.slots);
}
