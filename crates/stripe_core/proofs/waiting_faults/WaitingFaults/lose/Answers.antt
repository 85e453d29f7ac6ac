use Rattle.stripe_core.proofs.waiting_faults.WaitingFaults.lose.Goals as goal

pub returns-then-self-len-clause-once : goal.returns-then-self-len-clause-once
returns-then-self-len-clause-once c = rw (← c.self.view_is) c.sound.ensures.once

pub returns-else-matches-clause-once : goal.returns-else-matches-clause-once
returns-else-matches-clause-once c = rw (← c.self.view_is) c.sound.ensures.once
