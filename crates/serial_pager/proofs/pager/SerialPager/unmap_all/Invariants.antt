use Rattle.std.proofs.Common.{◌≡◌, ◌≤◌, length}
use Rattle.serial_pager.specs.Pagers.{IsWithin, journals_made}
use Rattle.serial_pager.proofs.Everything.{Unmapping}
use Rattle.serial_pager.proofs.pager.SerialPager.unmap_all.Given as goal

abbrev pub invariant-loop-region : goal.invariant-loop-region
invariant-loop-region g l = record {
  unmapping : Unmapping g.J.Journal.has_noted l.region l.answer l.initial.self l.self;
  made : journals_made g.J.Journal.made_with l.self ≡ journals_made g.J.Journal.made_with l.initial.self;
  within : IsWithin l.self;
  most : l.region ≤ length l.initial.self.shapes;
}
