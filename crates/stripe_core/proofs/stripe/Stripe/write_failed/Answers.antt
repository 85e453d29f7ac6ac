use Rattle.std.proofs.Common.{ap, subst, ◌+◌, ◌<◌, ◌^◌, ◌∙◌, ◌≡◌}
use Rattle.page_model.specs.Core.{Core}
use Rattle.page_model.specs.Steps as step
use Rattle.stripe_core.specs.Trips.{TripSeen}
use Rattle.stripe_core.proofs.Writing.{is_write_out}
use Rattle.stripe_core.proofs.stripe.Stripe.write_failed.Goals as goal

pub take_home-requires : goal.take_home-requires
take_home-requires g c =
    let w = c.requires.open_write in
    let out = c.service_knows.ensures.write_out w.0 w.1 c.args.self.now c.args.trip.start w.2 w.3 in
    record { writing = rw (ap (λ (t : TripSeen). t.start.key) c.trip.view_is) (is_write_out c.args.self.now c.args.trip.start out) }

pub returns-clause-stands : goal.returns-clause-stands
returns-clause-stands g c =
    λ h o s open_write.
    let t = c.trip.inside in
    let counts : Core → Core = λ v. record v { counts = record v.counts { faults = v.counts.faults + 1 }; events = v.events + 1 } in
    let whole : TripSeen → Core = λ x. step.write_failed c.args.self.now x.start.key x.lane in
    let made : c.count_fault.new.self ≡ step.write_failed c.args.self.now t.key (g.S.Store.seen t.lane) = c.count_fault.ensures.step ∙ ap counts c.take_home.ensures.step in
    let seen : c.count_fault.new.self ≡ step.write_failed c.args.self.now c.args.trip.start.key c.args.trip.lane = made ∙ ap whole c.trip.view_is in
    let few : (g.S.Store.seen t.lane).count < 2 ^ 64 = g.met.S.Store.small_count t.lane in
    let bounded : TripSeen → Type 0 = λ x. x.lane.count < 2 ^ 64 in
    let small : c.args.trip.lane.count < 2 ^ 64 = subst bounded c.trip.view_is few in
    rw seen (c.write_failed_stands.ensures h o c.args.self.now c.args.trip.start c.args.trip.lane s open_write c.requires.others c.requires.rose small)
