use Rattle.std.proofs.Common.{◌≡◌, true}
use Rattle.serial_pager.specs.Accesses.{is_for_store}
use Rattle.serial_pager.proofs.Loops.{Turned}
use Rattle.serial_pager.proofs.Turns.{turns_left}
use Rattle.serial_pager.proofs.stripe.SerialStripe.store.Given as goal

abbrev pub invariant-loop-key : goal.invariant-loop-key
invariant-loop-key g l = record {
  turned : Turned g.J.Journal.has_noted true is_for_store l.key l.initial.self l.self;
  made : g.J.Journal.made_with l.self.journal ≡ g.J.Journal.made_with l.initial.self.journal;
}

abbrev pub decreases-loop-key : goal.decreases-loop-key
decreases-loop-key g l = turns_left true l.self.core l.key
