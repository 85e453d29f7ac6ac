use Rattle.fault_queue.proofs.Walks.{AreFree}
use Rattle.fault_queue.proofs.queue.FaultQueue.new.Given as goal

abbrev pub invariant-loop-slot : goal.invariant-loop-slot
invariant-loop-slot l = AreFree l.order l.capacity l.slot
