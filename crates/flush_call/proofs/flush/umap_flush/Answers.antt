use Rattle.std.proofs.Common.{rules, ◌≡◌, ◌≤◌, length, sym, arith}
use Rattle.locked_stripe.specs.Walks.{FlushWent}
use Rattle.flush_call.proofs.Walking.{stops_flushing, walked_all, walked_more, walked_none}
use Rattle.flush_call.proofs.flush.umap_flush.Goals as goal

pub loop-stripe-init : goal.loop-stripe-init
loop-stripe-init g c = (c.requires.fit, walked_none (λ u before after. FlushWent before after) c.args.pager.now c.args.p.now)

pub loop-stripe-preserved : goal.loop-stripe-preserved
loop-stripe-preserved g c = (
  search rules,
  walked_more (λ u before after. FlushWent before after) c.loop-stripe.stripe c.args.pager.now c.args.p.now c.loop-stripe.p c.flush_stripe.new.p c.loop-stripe.invariant.1 c.in-Ok.ensures.ok,
)

pub returns-in-Err-clause-err : goal.returns-in-Err-clause-err
returns-in-Err-clause-err g c =
    stops_flushing c.loop-stripe.stripe c.in-Err.why c.args.pager.now c.args.p.now c.loop-stripe.p c.flush_stripe.new.p c.loop-stripe.invariant.1 c.in-Err.ensures.err

pub returns-clause-ok : goal.returns-clause-ok
returns-clause-ok g c =
    walked_all (λ u before after. FlushWent before after) c.loop-stripe.stripe c.args.pager.now c.args.p.now c.loop-stripe.p (omega (arith, c.stripes-stripe-end.ensures.locks, c.loop-stripe-test.false)) c.loop-stripe.invariant.1
