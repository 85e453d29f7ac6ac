use Rattle.std.proofs.Common.{◌≡◌, false}
use Rattle.serial_pager.specs.Accesses.{is_read}
use Rattle.serial_pager.proofs.Loops.{Turned}
use Rattle.serial_pager.proofs.Turns.{turns_left}
use Rattle.serial_pager.proofs.stripe.SerialStripe.load.Given as goal

abbrev pub invariant-loop-key : goal.invariant-loop-key
invariant-loop-key g l = record {
  turned : Turned g.J.Journal.has_noted false is_read l.key l.initial.self l.self;
  made : g.J.Journal.made_with l.self.journal ≡ g.J.Journal.made_with l.initial.self.journal;
}

abbrev pub decreases-loop-key : goal.decreases-loop-key
decreases-loop-key g l = turns_left false l.self.core l.key
