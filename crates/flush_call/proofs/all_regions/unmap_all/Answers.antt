use Rattle.std.proofs.Common.{rules, ◌≡◌, ◌<◌, length, refl, sym, ap, ◌∙◌, arith}
use Rattle.flush_call.specs.UnmapsAll.{UnmapsOne}
use Rattle.flush_call.proofs.Regions.{all_more, regions_all, regions_more, spent_at}
use Rattle.flush_call.proofs.all_regions.unmap_all.Goals as goal

pub loop-region-init : goal.loop-region-init
loop-region-init g c = (c.requires.fit, (refl, refl), λ e r s lock pass below l at. absurd (omega (arith, below)))

pub loop-region-preserved : goal.loop-region-preserved
loop-region-preserved g c =
    let i = c.loop-region.invariant in
    let one : UnmapsOne c.args.pager.now c.loop-region.region c.loop-region.p c.uunmap-answer.new.p c.uunmap-answer.result = record { ok = c.uunmap-answer.ensures.ok; err = c.uunmap-answer.ensures.err; left = sym c.is_spent.ensures.exact ∙ c.if-is_spent.false } in (
      search rules,
      regions_more c.loop-region.region c.loop-region.first c.first_fault-first.result c.uunmap-answer.result c.args.pager.now c.args.p.now c.loop-region.p c.uunmap-answer.new.p i.1 one c.first_fault-first.ensures.exact,
      λ e. all_more c.closings_stay.ensures c.loop-region.region c.loop-region.first c.uunmap-answer.result c.args.pager.now c.loop-region.p c.uunmap-answer.new.p i.2 one (sym c.first_fault-first.ensures.exact ∙ e),
    )

pub returns-then-is_spent-clause-err : goal.returns-then-is_spent-clause-err
returns-then-is_spent-clause-err g c =
    spent_at c.loop-region.region c.loop-region.first c.uunmap-answer.result c.args.pager.now c.args.p.now c.loop-region.p c.uunmap-answer.new.p (omega (arith, ap (λ t. length t.regions) c.table.ensures, c.count-region-end.ensures.count, c.loop-region-test.true)) c.loop-region.invariant.1 (sym c.is_spent.ensures.exact ∙ c.if-is_spent.true) c.uunmap-answer.ensures.err
