use Rattle.std.proofs.Common.{◌≡◌, map}
use Rattle.serial_pager.specs.Rests.{ClosesSame}
use Rattle.serial_pager.specs.Writings.{WritesAll}
use Rattle.serial_pager.proofs.Walks.{Walked}
use Rattle.serial_pager.proofs.pager.walks.flush_stripes.Given as goal

abbrev pub invariant-loop-stripe : goal.invariant-loop-stripe
invariant-loop-stripe g l = record {
  walked : Walked g.J.Journal.has_noted WritesAll ClosesSame l.stripe l.initial.stripes.items l.stripes.items;
  made : map (λ x. g.J.Journal.made_with x.journal) l.stripes.items ≡ map (λ x. g.J.Journal.made_with x.journal) l.initial.stripes.items;
}
