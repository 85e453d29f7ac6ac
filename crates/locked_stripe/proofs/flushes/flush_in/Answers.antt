use Rattle.std.proofs.Common.{rules, ◌≡◌, [], refl, sym, ◌∙◌}
use Rattle.locked_stripe.specs.Terms.{locked_setup}
use Rattle.locked_stripe.specs.Walks.{flushes}
use Rattle.locked_stripe.proofs.Walking.{covers_none, failed_both, flush_ended, walk_both, walk_goes, walk_none}
use Rattle.locked_stripe.proofs.flushes.flush_in.Goals as goal

pub loop-init : goal.loop-init
loop-init g c = (c.requires.own, refl, walk_none c.pager_laws.ensures flushes c.args.pass.now c.requires.own.1, covers_none c.args.pass.now.seen)

pub returns-in-Done-clause-ok : goal.returns-in-Done-clause-ok
returns-in-Done-clause-ok g c =
    flush_ended c.pager_laws.ensures (locked_setup c.args.lock.now) c.loop.last c.args.pass.now c.loop.pass c.flush_turn.new.pass c.loop.invariant.2 c.loop.invariant.3 c.in-Done.ensures.turns

pub returns-in-Failed-clause-err : goal.returns-in-Failed-clause-err
returns-in-Failed-clause-err g c =
    failed_both c.pager_laws.ensures flushes (locked_setup c.args.lock.now) c.in-Failed.key c.in-Failed.faults c.args.pass.now c.loop.pass c.flush_turn.new.pass c.loop.invariant.2 c.in-Failed.ensures.turns

pub loop-preserved : goal.loop-preserved
loop-preserved g c = (
  search rules,
  search rules,
  walk_both c.pager_laws.ensures flushes [] 0 c.args.pass.now c.loop.pass c.flush_turn.new.pass c.loop.invariant.2 c.in-Went.ensures.turns.0,
  c.in-Went.ensures.turns.1 c.args.pass.now.seen (walk_goes c.pager_laws.ensures flushes [] 0 c.args.pass.now c.loop.pass c.loop.invariant.2) c.loop.invariant.3,
)
