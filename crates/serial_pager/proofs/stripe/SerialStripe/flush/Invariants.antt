use Rattle.std.proofs.Common.{◌≡◌, false}
use Rattle.serial_pager.proofs.Flushes.{Tried, left}
use Rattle.serial_pager.proofs.stripe.SerialStripe.flush.Given as goal

abbrev pub invariant-pages : goal.invariant-pages
invariant-pages g l = record {
  tried : Tried g.J.Journal.has_noted l.last false l.initial.self l.self;
  made : g.J.Journal.made_with l.self.journal ≡ g.J.Journal.made_with l.initial.self.journal;
}

abbrev pub decreases-pages : goal.decreases-pages
decreases-pages g l = left l.self.core l.last
