use Rattle.fault_queue.proofs.queue.FaultQueue.sound.Goals as goal

pub returns : goal.returns
returns c = record { once = rw (← c.self.view_is) c.self.invariant.0.once }
