use Rattle.std.proofs.Common.{rules, ◌≡◌, [], true, false, refl, sym, ◌∙◌}
use Rattle.locked_stripe.specs.Terms.{locked_setup}
use Rattle.locked_stripe.proofs.Unmapping.{unmaps_none, unmaps_more, unmaps_gone, unmaps_done, unmaps_failed}
use Rattle.locked_stripe.proofs.unmaps.unmap_in.Goals as goal

pub loop-init : goal.loop-init
loop-init g c = (c.requires.own, refl, unmaps_none c.pager_laws.ensures c.args.region c.args.pass.now c.requires.own.1)

pub returns-in-Gone-clause-ok : goal.returns-in-Gone-clause-ok
returns-in-Gone-clause-ok g c =
    unmaps_gone c.pager_laws.ensures (locked_setup c.args.lock.now) c.args.region c.loop.fresh c.args.pass.now c.loop.pass c.unmap_turn.new.pass c.loop.invariant.2 c.in-Gone.ensures.turns

pub returns-in-Done-clause-ok : goal.returns-in-Done-clause-ok
returns-in-Done-clause-ok g c =
    unmaps_done c.pager_laws.ensures (locked_setup c.args.lock.now) c.args.region c.loop.fresh c.args.pass.now c.loop.pass c.unmap_turn.new.pass c.loop.invariant.2 c.in-Done.ensures.turns

pub returns-in-Failed-clause-err : goal.returns-in-Failed-clause-err
returns-in-Failed-clause-err g c =
    unmaps_failed c.pager_laws.ensures (locked_setup c.args.lock.now) c.args.region c.loop.fresh c.in-Failed.key c.in-Failed.faults c.args.pass.now c.loop.pass c.unmap_turn.new.pass c.loop.invariant.2 c.in-Failed.ensures.turns

pub loop-preserved : goal.loop-preserved
loop-preserved g c = (
  search rules,
  search rules,
  unmaps_more c.pager_laws.ensures (locked_setup c.args.lock.now) c.args.region c.loop.fresh c.args.pass.now c.loop.pass c.unmap_turn.new.pass c.loop.invariant.2 c.in-Went.ensures.turns,
)

pub returns-then-left-lt2-clause-err : goal.returns-then-left-lt2-clause-err
returns-then-left-lt2-clause-err g c =
    record { walk = record { went = c.loop.invariant.2.went; spent = search rules }; fresh = c.loop.fresh; began = c.loop.invariant.2.began }
