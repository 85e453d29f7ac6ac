use Rattle.std.proofs.Common.{◌≡◌, ◌∙◌, ◌<◌, ◌^◌, ap, sym, true, subst}
use Rattle.page_base.specs.declared.keys.Key.{Key}
use Rattle.page_model.specs.Core.{Core, is_reading}
use Rattle.page_model.specs.Setups.{has_page}
use Rattle.page_model.specs.Steps as step
use Rattle.stripe_core.specs.Trips.{TripSeen}
use Rattle.stripe_core.proofs.Lanes.{is_read_out}
use Rattle.stripe_core.proofs.stripe.Stripe.read_failed.Goals as goal

pub fail_step-requires-clause-page : goal.fail_step-requires-clause-page
fail_step-requires-clause-page g c =
    let out = c.service_knows.ensures.read_out c.requires.open_read.0 c.requires.open_read.1 c.args.self.now c.args.trip.start c.requires.open_read.2 c.requires.open_read.3 in
    let P : Key → Type 0 = λ k. has_page c.args.self.now.setup k ≡ true in
    subst P (sym (ap (λ (t : TripSeen). t.start.key) c.trip.view_is)) out.page

pub fail_step-requires-clause-reading : goal.fail_step-requires-clause-reading
fail_step-requires-clause-reading g c =
    let out = c.service_knows.ensures.read_out c.requires.open_read.0 c.requires.open_read.1 c.args.self.now c.args.trip.start c.requires.open_read.2 c.requires.open_read.3 in
    let P : Key → Type 0 = λ k. is_reading c.args.self.now k ≡ true in
    subst P (sym (ap (λ (t : TripSeen). t.start.key) c.trip.view_is)) (is_read_out c.args.self.now c.args.trip.start out)

pub returns-clause-step : goal.returns-clause-step
returns-clause-step g c = c.fail_step.ensures.step ∙ ap (λ (t : TripSeen). step.read_failed c.args.self.now t.start.key t.lane t.lane.count) c.trip.view_is

pub returns-clause-fixed : goal.returns-clause-fixed
returns-clause-fixed g c = ap (λ (v : Core). v.setup) c.fail_step.ensures.step

pub returns-clause-stands : goal.returns-clause-stands
returns-clause-stands g c = λ h o s q.
    let eq : c.fail_step.new.self ≡ step.read_failed c.args.self.now c.args.trip.start.key c.args.trip.lane c.args.trip.lane.count = c.fail_step.ensures.step ∙ ap (λ (t : TripSeen). step.read_failed c.args.self.now t.start.key t.lane t.lane.count) c.trip.view_is in
    let P : TripSeen → Type 0 = λ t. t.lane.count < 2 ^ 64 in
    rw eq (c.read_failed_stands.ensures h o c.args.self.now c.args.trip.start c.args.trip.lane s q c.requires.same c.requires.rose (subst P c.trip.view_is c.fail_step.ensures.small))
