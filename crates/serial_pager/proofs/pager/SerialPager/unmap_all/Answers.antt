use Rattle.std.proofs.Common.{◌≡◌, length, refl, ap, ◌∙◌, arith}
use Rattle.serial_pager.proofs.Everything.{unmapping_more, unmapping_none}
use Rattle.serial_pager.proofs.pager.SerialPager.unmap_all.Goals as goal

pub loop-region-init : goal.loop-region-init
loop-region-init g c = record { unmapping = unmapping_none g.J.Journal.has_noted _ c.args.self.now; made = refl; within = c.regions-region-end.ensures.within; most = omega arith }

pub unmap-requires : goal.unmap-requires
unmap-requires g c =
    let u = c.loop-region.invariant.unmapping in
    record {
      few = omega (arith, u.spent, c.requires.few, c.regions-region-end.ensures.few, c.loop-region-test.true);
      region = omega (arith, ap length u.same.shapes, c.regions-region-end.ensures.exact, c.loop-region-test.true);
    }

pub loop-region-preserved : goal.loop-region-preserved
loop-region-preserved g c =
    let i = c.loop-region.invariant in
    let e = c.unmap.ensures in
    record {
      unmapping = unmapping_more g.J.Journal.has_noted c.loop-region.region c.loop-region.answer c.first_fault-answer.result c.unmap.result c.args.self.now c.loop-region.self c.unmap.new.self i.unmapping e.same e.spent e.ok e.err c.first_fault-answer.ensures.exact;
      made = e.made ∙ i.made;
      within = e.within;
      most = omega (arith, c.regions-region-end.ensures.exact, c.loop-region-test.true);
    }

pub returns : goal.returns
returns g c =
    let i = c.loop-region.invariant in
    let u = i.unmapping in
    let all : c.loop-region.region ≡ length c.args.self.now.shapes = omega (arith, i.most, c.regions-region-end.ensures.exact, c.loop-region-test.false) in
    record {
      same = u.same;
      made = i.made;
      spent = omega (arith, u.spent, all);
      within = i.within;
      unmapped = record { hows = u.hows; every = u.every ∙ all; made = u.made; first = u.first };
    }
