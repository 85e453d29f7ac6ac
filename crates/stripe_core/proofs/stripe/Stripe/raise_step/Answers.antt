use Rattle.std.proofs.Common.{◌≡◌, ◌∙◌, ◌+◌, ap, arith, refl, map, false}
use Rattle.page_base.specs.declared.keys.Raise.{Raise}
use Rattle.page_model.specs.Setups.{has_page}
use Rattle.stripe_core.specs.Configs.{setup_of}
use Rattle.stripe_core.specs.InsideTied.{CountsWithin}
use Rattle.stripe_core.specs.InsideWaiting.{raised}
use Rattle.stripe_core.proofs.Looks.{at_now}
use Rattle.stripe_core.proofs.Lost.{lost_raised}
use Rattle.stripe_core.proofs.Serving.{raised_fits}
use Rattle.stripe_core.proofs.Sizes.{all_and, requeued}
use Rattle.fault_queue.specs.Queues.{pending_why}
use Rattle.page_model.specs.Core.{Core, is_pending}
use Rattle.stripe_core.proofs.Waiting.{none_of, pending_is}
use Rattle.stripe_core.proofs.stripe.Stripe.raise_step.Goals as goal

pub raise-requires : goal.raise-requires
raise-requires g c =
    let s = c.self.inside in
    let calm : is_pending c.args.self.now c.args.key ≡ false = cc (c.is_pending.ensures.exact, c.if-is_pending.false) in
    record { fresh = none_of (pending_why s.queue.raises c.args.key) (pending_is s.queue.raises c.args.key ∙ (ap (λ (v : Core). is_pending v c.args.key) c.self.view_is ∙ calm)) }

pub invariant_of-self-2 : goal.invariant_of-self-2
invariant_of-self-2 g c =
    let s = c.self.inside in
    let p : Raise = record { key = c.args.key; why = c.args.why } in
    let setup = setup_of s.config.value (map g.S.Store.seen s.lanes.value.items) in
    let at = at_now c.args.self.now s.table s.buffer _ c.args.key c.self.invariant.0 (ap (λ (v : Core). v.pages) c.self.view_is) in
    let queued = all_and (λ (q : Raise). has_page setup q.key) s.queue.raises p c.self.invariant.1.queued (ap (λ (v : Core). has_page v.setup c.args.key) c.self.view_is ∙ c.requires.page) in
    let lost = lost_raised s.table s.queue p (raised_fits c.args.self.now s.table s.buffer p at c.requires.fits) c.self.invariant.1.lost in
    let counted : CountsWithin s.counts (s.events + 1) = omega (arith, c.self.invariant.4) in
    rw c.in-Ok.ensures.ok (c.self.invariant.0, requeued (raised s.queue c.args.key c.args.why) refl queued lost c.self.invariant.1, c.self.invariant.2, c.self.invariant.3, counted)
