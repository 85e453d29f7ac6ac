use Rattle.std.proofs.Common.{◌≡◌, map}
use Rattle.serial_pager.specs.Unmappings.{ClosesOne, Unmaps}
use Rattle.serial_pager.proofs.Walks.{Walked}
use Rattle.serial_pager.proofs.pager.walks.unmap_stripes.Given as goal

abbrev pub invariant-loop-stripe : goal.invariant-loop-stripe
invariant-loop-stripe g l = record {
  walked : Walked g.J.Journal.has_noted (Unmaps l.region) (ClosesOne l.region) l.stripe l.initial.stripes.items l.stripes.items;
  made : map (λ x. g.J.Journal.made_with x.journal) l.stripes.items ≡ map (λ x. g.J.Journal.made_with x.journal) l.initial.stripes.items;
}
