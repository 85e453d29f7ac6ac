use Rattle.std.proofs.Common.{rules, ◌≡◌, ◌∷◌, [], Some, refl, sym, ap, ◌∙◌, subst}
use Rattle.page_base.specs.declared.keys.Key.{Key}
use Rattle.page_model.specs.declared.entry.Cause.TheVariants.{Flush}
use Rattle.page_model.specs.declared.entry.Entry.TheVariants as entry
use Rattle.locked_stripe.specs.declared.answers.FlushTurn.{FlushTurn}
use Rattle.locked_stripe.specs.declared.answers.FlushTurn.TheVariants as flush
use Rattle.locked_stripe.specs.InsideWalks.{FlushTurns}
use Rattle.locked_stripe.specs.Terms.{locked_setup}
use Rattle.locked_stripe.specs.Walks.{flushes}
use Rattle.locked_stripe.proofs.Walking.{flush_rested, flush_wrote, flush_failed}
use Rattle.locked_stripe.proofs.flushes.flush_turn.Goals as goal

pub returns-in-Err-clause-turns : goal.returns-in-Err-clause-turns
returns-in-Err-clause-turns g c =
    subst (λ (t : FlushTurn). FlushTurns (locked_setup c.args.lock.now) c.args.after c.args.pass.now c.begin_flush.new.pass t) (sym c.rested.ensures.exact)
    (flush_rested c.pager_laws.ensures c.flush_laws.ensures (locked_setup c.args.lock.now) c.args.after c.in-Err.rest c.args.pass.now c.begin_flush.new.pass c.in-Err.ensures.rests)

pub returns-in-Ok-end_write-clause-turns : goal.returns-in-Ok-end_write-clause-turns
returns-in-Ok-end_write-clause-turns g c =
    let d = c.in-Ok.ensures.begun in
    let e = c.in-Ok-end_write.ensures.ok in
    subst (λ (k : Key). FlushTurns (locked_setup c.args.lock.now) c.args.after c.args.pass.now c.end_write.new.pass (flush.Went (Some k))) (sym c.key-key.ensures)
    (flush_wrote c.pager_laws.ensures c.flush_laws.ensures c.keys_are_ordered.ensures (locked_setup c.args.lock.now) c.args.after c.in-Ok.trip.start c.begin_flush.new.scratch c.args.pass.now c.begin_flush.new.pass c.end_write.new.pass d.0 e.0 d.1 d.2 e.1)

pub returns-in-Err-end_write-clause-turns : goal.returns-in-Err-end_write-clause-turns
returns-in-Err-end_write-clause-turns g c =
    let d = c.in-Ok.ensures.begun in
    let e = c.in-Err-end_write.ensures.err in
    subst (λ (k : Key). FlushTurns (locked_setup c.args.lock.now) c.args.after c.args.pass.now c.end_write.new.pass (flush.Failed k c.in-Err-end_write.n)) (sym c.key-key.ensures)
    (flush_failed c.pager_laws.ensures (locked_setup c.args.lock.now) c.args.after c.in-Ok.trip.start c.in-Err-end_write.n c.args.pass.now c.begin_flush.new.pass c.end_write.new.pass d.0 e.0 d.1 d.2 e.1)
