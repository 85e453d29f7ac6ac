use Rattle.std.proofs.Common.{ap, ◌+◌, ◌∙◌, ◌≡◌}
use Rattle.page_model.specs.Core.{Core, Home}
use Rattle.page_model.specs.Steps as step
use Rattle.page_model.specs.Steps.{on_region, placed}
use Rattle.stripe_core.specs.Trips.{TripSeen}
use Rattle.stripe_core.proofs.Writing.{is_write_out}
use Rattle.stripe_core.proofs.stripe.Stripe.written.Goals as goal

pub clean-requires : goal.clean-requires
clean-requires g c =
    let w = c.requires.open_write in
    let out = c.service_knows.ensures.write_out w.0 w.1 c.args.self.now c.args.trip.start w.2 w.3 in
    record { page = rw (ap (λ (t : TripSeen). t.start.key) c.trip.view_is) out.page }

pub take_home-requires : goal.take_home-requires
take_home-requires g c =
    let w = c.requires.open_write in
    let out = c.service_knows.ensures.write_out w.0 w.1 c.args.self.now c.args.trip.start w.2 w.3 in
    record { writing = rw (ap (λ (t : TripSeen). t.start.key) c.trip.view_is, c.clean.ensures.step) (is_write_out c.args.self.now c.args.trip.start out) }

pub returns-clause-stands : goal.returns-clause-stands
returns-clause-stands g c =
    λ h o s open_write taken.
    let t = c.trip.inside in
    let counts : Core → Core = λ v. record v { counts = record v.counts { writes = v.counts.writes + 1 }; events = v.events + 1 } in
    let home : Core → Core = λ v. record v { regions = on_region t.key.region (placed (Home (g.S.Store.seen t.lane))) v.regions } in
    let whole : TripSeen → Core = λ x. step.written c.args.self.now x.start.key x.lane in
    let made : c.count_write.new.self ≡ step.written c.args.self.now t.key (g.S.Store.seen t.lane) = c.count_write.ensures.step ∙ ap counts (c.take_home.ensures.step ∙ ap home c.clean.ensures.step) in
    let seen : c.count_write.new.self ≡ step.written c.args.self.now c.args.trip.start.key c.args.trip.lane = made ∙ ap whole c.trip.view_is in
    rw seen (c.written_stands.ensures h o c.args.self.now c.args.trip.start c.args.bytes.now c.args.trip.lane s open_write taken c.requires.wrote)
