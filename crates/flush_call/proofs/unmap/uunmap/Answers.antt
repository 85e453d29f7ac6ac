use Rattle.std.proofs.Common.{rules, ◌≡◌, ◌≤◌, ◌+◌, Bool, true, false, length, sym, subst, arith}
use Rattle.locked_stripe.specs.Walks.{UnmapWent}
use Rattle.flush_call.specs.InsideWalks.{GoneSoFar}
use Rattle.flush_call.specs.Unmaps.{IsNowUnmapped}
use Rattle.flush_call.proofs.Walking.{all_gone, gone_more, newly, now_unmapped, stops_unmapping, walked_more, walked_none}
use Rattle.flush_call.proofs.unmap.uunmap.Goals as goal

pub loop-stripe-init : goal.loop-stripe-init
loop-stripe-init g c = (
  c.requires.fit,
  walked_none (λ u before after. IsNowUnmapped c.args.region before after) c.args.pager.now c.args.p.now,
  walked_none (λ u before after. UnmapWent c.args.region true before after) c.args.pager.now c.args.p.now,
)

pub loop-stripe-preserved : goal.loop-stripe-preserved
loop-stripe-preserved g c = (
  search rules,
  walked_more (λ u before after. IsNowUnmapped c.args.region before after) c.loop-stripe.stripe c.args.pager.now c.args.p.now c.loop-stripe.p c.unmap_stripe.new.p c.loop-stripe.invariant.1 (now_unmapped c.args.region c.loop-stripe.stripe c.in-Ok.before c.args.pager.now c.loop-stripe.p c.unmap_stripe.new.p c.in-Ok.ensures.ok),
  subst (λ (b : Bool). GoneSoFar b c.args.region (c.loop-stripe.stripe + 1) c.args.pager.now c.args.p.now c.unmap_stripe.new.p) (sym c.is_still_gone-gone.ensures.exact)
      (gone_more c.args.region c.loop-stripe.stripe c.loop-stripe.gone c.in-Ok.before c.args.pager.now c.args.p.now c.loop-stripe.p c.unmap_stripe.new.p c.loop-stripe.invariant.1 c.loop-stripe.invariant.2 c.in-Ok.ensures.ok),
)

pub returns-in-Err-clause-err : goal.returns-in-Err-clause-err
returns-in-Err-clause-err g c =
    stops_unmapping c.args.region c.loop-stripe.stripe c.in-Err.why c.args.pager.now c.args.p.now c.loop-stripe.p c.unmap_stripe.new.p c.loop-stripe.invariant.1 c.in-Err.ensures.err

pub returns-then-gone-clause-err : goal.returns-then-gone-clause-err
returns-then-gone-clause-err g c =
    all_gone c.args.region c.loop-stripe.stripe c.loop-stripe.gone c.args.pager.now c.args.p.now c.loop-stripe.p c.if-gone.true (omega (arith, c.stripes-stripe-end.ensures.locks, c.loop-stripe-test.false)) c.loop-stripe.invariant.2

pub returns-clause-ok : goal.returns-clause-ok
returns-clause-ok g c =
    newly c.args.region c.loop-stripe.stripe c.loop-stripe.gone c.args.pager.now c.args.p.now c.loop-stripe.p c.if-gone.false (omega (arith, c.stripes-stripe-end.ensures.locks, c.loop-stripe-test.false)) c.loop-stripe.invariant.1 c.loop-stripe.invariant.2
