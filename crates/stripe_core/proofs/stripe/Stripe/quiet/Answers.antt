use Rattle.std.proofs.Common.{arith, length, map, ap, not, refl, ◌&&◌, ◌==◌, ◌∙◌, ◌≡◌}
use Rattle.page_base.specs.declared.keys.Raise.{Raise}
use Rattle.page_model.specs.Core as core
use Rattle.std.specs.List.{list_any}
use Rattle.fault_queue.specs.Queues.{group_region}
use Rattle.page_model.specs.Core.{Core}
use Rattle.stripe_core.specs.Configs.{setup_of}
use Rattle.stripe_core.proofs.Serving.{by_region}
use Rattle.stripe_core.proofs.stripe.Stripe.quiet.Goals as goal

pub waits_in-waits-requires : goal.waits_in-waits-requires
waits_in-waits-requires g c =
    let few = c.self.invariant.1.few in
    let same = ap (λ (v : Core). length v.setup.shapes) c.self.view_is in
    record { few = omega (arith, few, same, c.requires.region) }

pub returns : goal.returns
returns g c =
    let resident = c.has_resident-resident.ensures.exact in
    let s = c.self.inside in
    let setup = setup_of s.config.value (map g.S.Store.seen s.lanes.value.items) in
    let waits = c.waits_in-waits.ensures.exact ∙ (ap (list_any (λ (r : Raise). group_region r == c.args.region)) c.faults.ensures.raises ∙ (by_region setup s.queue.raises c.args.region c.self.invariant.1.queued c.self.invariant.1.few ∙ ap (λ (v : Core). list_any (λ (p : Raise). p.key.region == c.args.region) v.queue) c.self.view_is)) in
    let all : (not c.has_resident-resident.result && not c.waits_in-waits.result && c.is_home.result) ≡ core.is_quiet c.args.self.now c.args.region = rw (resident, waits, c.is_home.ensures.exact) refl in
    record { exact = c.nothing_left.ensures ∙ all }
