use Rattle.std.proofs.Common.{◌≡◌, ◌∷◌, [], refl, sym, ap, subst}
use Rattle.page_base.specs.declared.keys.Key.{Key}
use Rattle.locked_stripe.specs.declared.answers.UnmapTurn.{UnmapTurn}
use Rattle.locked_stripe.specs.declared.answers.UnmapTurn.TheVariants as unmap
use Rattle.locked_stripe.specs.InsideWalks.{UnmapTurns}
use Rattle.locked_stripe.specs.Terms.{locked_setup}
use Rattle.locked_stripe.proofs.Unmapping.{turn_failed, turn_stepped, turn_written}
use Rattle.locked_stripe.proofs.unmaps.unmap_turn.Goals as goal

pub returns-in-Err-clause-turns : goal.returns-in-Err-clause-turns
returns-in-Err-clause-turns g c =
    subst (λ (t : UnmapTurn). UnmapTurns (locked_setup c.args.lock.now) c.args.region c.args.pass.now c.begin_unmap.new.pass t) (sym c.stepped.ensures.exact)
    (turn_stepped c.pager_laws.ensures (locked_setup c.args.lock.now) c.args.region c.in-Err.step c.args.pass.now c.begin_unmap.new.pass c.in-Err.ensures.steps)

pub returns-in-Ok-end_write-clause-turns : goal.returns-in-Ok-end_write-clause-turns
returns-in-Ok-end_write-clause-turns g c =
    let e = c.in-Ok-end_write.ensures.ok in
    turn_written c.pager_laws.ensures (locked_setup c.args.lock.now) c.args.region c.in-Ok.trip.start.key c.in-Ok.trip.start.at c.begin_unmap.new.scratch c.args.pass.now c.begin_unmap.new.pass c.end_write.new.pass e.0 c.in-Ok.ensures.begun e.1

pub returns-in-Err-end_write-clause-turns : goal.returns-in-Err-end_write-clause-turns
returns-in-Err-end_write-clause-turns g c =
    let e = c.in-Err-end_write.ensures.err in
    subst (λ (k : Key). UnmapTurns (locked_setup c.args.lock.now) c.args.region c.args.pass.now c.end_write.new.pass (unmap.Failed k c.in-Err-end_write.n)) (sym c.key-key.ensures)
    (turn_failed c.pager_laws.ensures (locked_setup c.args.lock.now) c.args.region c.in-Ok.trip.start.key c.in-Err-end_write.n c.args.pass.now c.begin_unmap.new.pass c.end_write.new.pass e.0 c.in-Ok.ensures.begun e.1)
