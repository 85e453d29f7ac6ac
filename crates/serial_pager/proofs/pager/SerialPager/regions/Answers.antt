use Rattle.std.proofs.Common.{subst, arith}
use Rattle.serial_pager.specs.Pagers.{IsWithin}
use Rattle.serial_pager.proofs.Everything.{few_regions}
use Rattle.serial_pager.proofs.Walks.{within_of}
use Rattle.serial_pager.proofs.pager.SerialPager.regions.Goals as goal

pub overflow_cast-result : goal.overflow_cast-result
overflow_cast-result g c =
    let ins = c.self.inside in
    let few = few_regions ins.config ins.stripes.items ins.spent c.self.invariant.0 (omega (arith, c.self.invariant.1, ins.config.layout.some_stripe)) in
    omega (arith, few, c.len.ensures)

pub returns-clause-few : goal.returns-clause-few
returns-clause-few g c =
    let ins = c.self.inside in
    let few = few_regions ins.config ins.stripes.items ins.spent c.self.invariant.0 (omega (arith, c.self.invariant.1, ins.config.layout.some_stripe)) in
    omega (arith, few, c.len.ensures)

pub returns-clause-within : goal.returns-clause-within
returns-clause-within g c = subst IsWithin c.self.view_is (within_of _ c.self.invariant.0 c.model_laws.ensures.knows.within)
