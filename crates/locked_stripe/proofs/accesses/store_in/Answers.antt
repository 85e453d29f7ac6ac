use Rattle.std.proofs.Common.{rules, ◌≡◌, ◌∷◌, [], refl, sym, ◌∙◌}
use Rattle.page_base.specs.declared.keys.Why.TheVariants as why
use Rattle.page_model.specs.declared.entry.Entry.TheVariants as entry
use Rattle.locked_stripe.specs.Calls.{for_store}
use Rattle.locked_stripe.specs.Terms.{locked_setup}
use Rattle.locked_stripe.proofs.Trying.{tries_none, tries_more, tries_done, done_few, tries_closed, tries_failed, tries_stopped}
use Rattle.locked_stripe.proofs.accesses.store_in.Goals as goal

pub loop-init : goal.loop-init
loop-init g c = (c.requires.own, refl, tries_none c.pager_laws.ensures c.args.key for_store c.args.pass.now c.requires.own.1)

pub returns-in-Done-clause-ok : goal.returns-in-Done-clause-ok
returns-in-Done-clause-ok g c =
    let d = c.in-Done.ensures.glances in
    tries_done c.pager_laws.ensures c.args.key for_store c.args.pass.now c.loop.pass c.look_store.new.pass c.loop.before d.0 (entry.Save c.args.key c.args.place c.args.bytes.now ∷ []) refl c.loop.invariant.2 d.1

pub returns-in-Done-clause-few : goal.returns-in-Done-clause-few
returns-in-Done-clause-few g c =
    let d = c.in-Done.ensures.glances in
    done_few c.pager_laws.ensures c.args.key for_store c.args.pass.now c.loop.pass c.look_store.new.pass c.loop.before d.0 (entry.Save c.args.key c.args.place c.args.bytes.now) refl c.loop.invariant.2 d.1

pub returns-in-Closed-clause-err : goal.returns-in-Closed-clause-err
returns-in-Closed-clause-err g c =
    let d = c.in-Closed.ensures.glances in
    tries_closed c.pager_laws.ensures c.args.key for_store c.args.pass.now c.loop.pass c.look_store.new.pass c.loop.before d.0 c.loop.invariant.2 d.1 d.2

pub returns-in-Failed-clause-err : goal.returns-in-Failed-clause-err
returns-in-Failed-clause-err g c =
    tries_failed c.pager_laws.ensures c.args.key for_store c.args.pass.now c.loop.pass c.look_store.new.pass c.loop.before c.in-Failed.n c.loop.invariant.2 c.in-Failed.ensures.glances

pub returns-in-Err-clause-err : goal.returns-in-Err-clause-err
returns-in-Err-clause-err g c =
    tries_stopped c.pager_laws.ensures (locked_setup c.args.lock.now) c.args.key for_store c.in-Waits.ensures.glances.0 c.args.pass.now c.loop.pass c.look_store.new.pass c.help_in.new.pass c.loop.before c.in-Waits.n c.in-Err.why c.in-Waits.ensures.glances.1 c.loop.invariant.2 c.in-Waits.ensures.glances.2 c.in-Err.ensures.stopped

pub loop-preserved : goal.loop-preserved
loop-preserved g c = (
  search rules,
  search rules,
  tries_more c.pager_laws.ensures (locked_setup c.args.lock.now) c.args.key for_store c.in-Waits.ensures.glances.0 c.args.pass.now c.loop.pass c.look_store.new.pass c.help_in.new.pass c.loop.before c.in-Waits.n c.in-Waits.ensures.glances.1 c.loop.invariant.2 c.in-Waits.ensures.glances.2 c.in-Ok.ensures.helped,
)
