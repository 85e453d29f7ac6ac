use Rattle.std.proofs.Common.{arith, refl, ◌∙◌}
use Rattle.serial_pager.specs.Unmappings.{drops}
use Rattle.serial_pager.proofs.Clearing.{drops_less}
use Rattle.serial_pager.proofs.Goes.{by_none, by_these, by_twice}
use Rattle.serial_pager.proofs.stripe.SerialStripe.drop_stale.Goals as goal

pub faults-init : goal.faults-init
faults-init g c = record { rest = c.requires.rest; went = by_none g.J.Journal.has_noted drops c.args.self.now; few = omega arith; made = refl }

pub faults-smaller : goal.faults-smaller
faults-smaller g c = (drops_less c.model_laws.ensures c.faults.self.core c.drop_raise.new.self.core c.faults.invariant.rest c.drop_raise.ensures.steps).0

pub faults-preserved : goal.faults-preserved
faults-preserved g c =
    let i = c.faults.invariant in
    let less = drops_less c.model_laws.ensures c.faults.self.core c.drop_raise.new.self.core i.rest c.drop_raise.ensures.steps in
    let went = c.drop_raise.ensures.went in
    record {
      rest = c.drop_raise.ensures.rest;
      went = by_twice g.J.Journal.has_noted drops c.args.self.now c.faults.self c.drop_raise.new.self i.went (by_these g.J.Journal.has_noted drops _ c.faults.self c.drop_raise.new.self went.1 refl);
      few = omega (arith, i.few, less.0, less.1);
      made = c.drop_raise.ensures.made ∙ i.made;
    }
