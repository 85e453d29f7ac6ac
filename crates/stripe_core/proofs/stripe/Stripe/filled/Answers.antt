use Rattle.std.proofs.Common.{◌≡◌, ◌∙◌, ap, sym, true, false, subst}
use Rattle.page_base.specs.declared.keys.Key.{Key}
use Rattle.page_model.specs.Core.{Core, is_present, is_reading, why_out}
use Rattle.page_model.specs.Setups.{has_page}
use Rattle.page_model.specs.Steps as step
use Rattle.stripe_core.specs.Trips.{TripSeen}
use Rattle.stripe_core.proofs.Lanes.{is_read_out}
use Rattle.stripe_core.proofs.stripe.Stripe.filled.Goals as goal

pub fill_step-requires-clause-page : goal.fill_step-requires-clause-page
fill_step-requires-clause-page g c =
    let out = c.service_knows.ensures.read_out c.requires.open_read.0 c.requires.open_read.1 c.args.self.now c.args.trip.start c.requires.open_read.2 c.requires.open_read.3 in
    let P : Key → Type 0 = λ k. has_page c.args.self.now.setup k ≡ true in
    subst P (sym (ap (λ (t : TripSeen). t.start.key) c.trip.view_is)) out.page

pub fill_step-requires-clause-absent : goal.fill_step-requires-clause-absent
fill_step-requires-clause-absent g c =
    let out = c.service_knows.ensures.read_out c.requires.open_read.0 c.requires.open_read.1 c.args.self.now c.args.trip.start c.requires.open_read.2 c.requires.open_read.3 in
    let P : Key → Type 0 = λ k. is_present c.args.self.now k ≡ false in
    subst P (sym (ap (λ (t : TripSeen). t.start.key) c.trip.view_is)) out.absent

pub fill_step-requires-clause-reading : goal.fill_step-requires-clause-reading
fill_step-requires-clause-reading g c =
    let out = c.service_knows.ensures.read_out c.requires.open_read.0 c.requires.open_read.1 c.args.self.now c.args.trip.start c.requires.open_read.2 c.requires.open_read.3 in
    let P : Key → Type 0 = λ k. is_reading c.args.self.now k ≡ true in
    subst P (sym (ap (λ (t : TripSeen). t.start.key) c.trip.view_is)) (is_read_out c.args.self.now c.args.trip.start out)

pub returns-clause-why : goal.returns-clause-why
returns-clause-why g c = λ h s.
    let out = c.service_knows.ensures.read_out c.requires.open_read.0 c.requires.open_read.1 c.args.self.now c.args.trip.start c.requires.open_read.2 c.requires.open_read.3 in
    let key = c.args.trip.start.key in
    c.fill_step.ensures.why
    ∙ ap (λ (t : TripSeen). why_out c.args.self.now t.start.key) c.trip.view_is
    ∙ c.whys_agree.ensures.out h c.args.self.now key s (is_read_out c.args.self.now c.args.trip.start out)

pub returns-clause-step : goal.returns-clause-step
returns-clause-step g c = c.fill_step.ensures.step ∙ ap (λ (t : TripSeen). step.filled c.args.self.now t.start.key c.args.bytes.now t.lane) c.trip.view_is

pub returns-clause-fixed : goal.returns-clause-fixed
returns-clause-fixed g c = ap (λ (v : Core). v.setup) c.fill_step.ensures.step

pub returns-clause-stands : goal.returns-clause-stands
returns-clause-stands g c = λ h o s q.
    let eq : c.fill_step.new.self ≡ step.filled c.args.self.now c.args.trip.start.key c.args.bytes.now c.args.trip.lane = c.fill_step.ensures.step ∙ ap (λ (t : TripSeen). step.filled c.args.self.now t.start.key c.args.bytes.now t.lane) c.trip.view_is in
    rw eq (c.filled_stands.ensures h o c.args.self.now c.args.trip.start c.args.bytes.now c.args.trip.lane s q c.requires.same c.requires.holds)
