use Rattle.std.proofs.Common.{◌≡◌, ◌+◌, ◌*◌, ◌≤◌, length}
use Rattle.serial_pager.specs.InsideGoings.{WentBy}
use Rattle.serial_pager.specs.Rests.{IsAtRest}
use Rattle.serial_pager.specs.Unmappings.{leaves_region}
use Rattle.serial_pager.proofs.stripe.SerialStripe.clear.Given as goal

abbrev pub invariant-pages : goal.invariant-pages
invariant-pages g l = record {
  rest : IsAtRest l.self.core;
  went : WentBy 0 g.J.Journal.has_noted (leaves_region l.region) l.initial.self l.self;
  queue : l.self.core.queue ≡ l.initial.self.core.queue;
  few : l.self.core.events + 3 * length l.self.core.pages ≤ l.initial.self.core.events + 3 * length l.initial.self.core.pages;
  made : g.J.Journal.made_with l.self.journal ≡ g.J.Journal.made_with l.initial.self.journal;
}

abbrev pub decreases-pages : goal.decreases-pages
decreases-pages g l = length l.self.core.pages
