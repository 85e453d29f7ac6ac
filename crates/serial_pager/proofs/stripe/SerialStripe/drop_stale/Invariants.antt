use Rattle.std.proofs.Common.{◌≡◌, ◌+◌, ◌≤◌, length}
use Rattle.serial_pager.specs.InsideGoings.{WentBy}
use Rattle.serial_pager.specs.Rests.{IsAtRest}
use Rattle.serial_pager.specs.Unmappings.{drops}
use Rattle.serial_pager.proofs.stripe.SerialStripe.drop_stale.Given as goal

abbrev pub invariant-faults : goal.invariant-faults
invariant-faults g l = record {
  rest : IsAtRest l.self.core;
  went : WentBy 0 g.J.Journal.has_noted drops l.initial.self l.self;
  few : l.self.core.events + length l.self.core.queue ≤ l.initial.self.core.events + length l.initial.self.core.queue;
  made : g.J.Journal.made_with l.self.journal ≡ g.J.Journal.made_with l.initial.self.journal;
}

abbrev pub decreases-faults : goal.decreases-faults
decreases-faults g l = length l.self.core.queue
