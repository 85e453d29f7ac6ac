use Rattle.std.proofs.Common.{◌≡◌, ◌∙◌, ◌∷◌, ap, sym, subst, true, ℕ}
use Rattle.page_base.specs.declared.keys.Key.{Key}
use Rattle.page_base.specs.Lanes.{LaneSeen}
use Rattle.page_model.specs.declared.entry.Entry.TheVariants as entry
use Rattle.page_model.specs.declared.seen.Next.TheVariants as serve
use Rattle.page_model.specs.Core.{Core, next}
use Rattle.page_model.specs.Readers.{IsHere, LaneHas}
use Rattle.page_model.specs.Setups.{has_page}
use Rattle.page_model.specs.Steps as step
use Rattle.page_model.specs.Trips.{IsOpenRead}
use Rattle.stripe_core.proofs.stripe.Stripe.start_read.Goals as goal

pub start_step-requires-clause-page : goal.start_step-requires-clause-page
start_step-requires-clause-page g c = (c.service_knows.ensures.read c.requires.stands.0 c.args.self.now c.next_read-key.result c.requires.stands.1 c.next_read-key.ensures.is).page

pub start_step-requires-clause-absent : goal.start_step-requires-clause-absent
start_step-requires-clause-absent g c = (c.service_knows.ensures.read c.requires.stands.0 c.args.self.now c.next_read-key.result c.requires.stands.1 c.next_read-key.ensures.is).absent

pub start_step-requires-clause-pending : goal.start_step-requires-clause-pending
start_step-requires-clause-pending g c = (c.service_knows.ensures.read c.requires.stands.0 c.args.self.now c.next_read-key.result c.requires.stands.1 c.next_read-key.ensures.is).pending

pub start_step-requires-clause-free : goal.start_step-requires-clause-free
start_step-requires-clause-free g c = (c.service_knows.ensures.read c.requires.stands.0 c.args.self.now c.next_read-key.result c.requires.stands.1 c.next_read-key.ensures.is).free

pub start_step-requires-clause-home : goal.start_step-requires-clause-home
start_step-requires-clause-home g c = (c.service_knows.ensures.read c.requires.stands.0 c.args.self.now c.next_read-key.result c.requires.stands.1 c.next_read-key.ensures.is).home

pub returns-clause-next : goal.returns-clause-next
returns-clause-next g c = c.next_read-key.ensures.is ∙ ap serve.Read (sym c.start_step.ensures.key)

pub returns-clause-step : goal.returns-clause-step
returns-clause-step g c = c.start_step.ensures.step ∙ ap (step.start_read c.args.self.now) (sym c.start_step.ensures.key)

pub returns-clause-fixed : goal.returns-clause-fixed
returns-clause-fixed g c = ap (λ (v : Core). v.setup) c.start_step.ensures.step

pub returns-clause-page : goal.returns-clause-page
returns-clause-page g c =
    let P : Key → Type 0 = λ k. has_page c.args.self.now.setup k ≡ true in
    subst P (sym c.start_step.ensures.key) (c.service_knows.ensures.read c.requires.stands.0 c.args.self.now c.next_read-key.result c.requires.stands.1 c.next_read-key.ensures.is).page

pub returns-clause-serves : goal.returns-clause-serves
returns-clause-serves g c =
    let ready = c.service_knows.ensures.read c.requires.stands.0 c.args.self.now c.next_read-key.result c.requires.stands.1 c.next_read-key.ensures.is in
    let like = c.service_knows.ensures.like c.requires.stands.0 c.args.self.now c.next_read-key.result.region c.start_step.result.start.taken c.requires.stands.1 c.start_step.ensures.here in
    let has = c.service_knows.ensures.lane_has c.args.self.now.setup c.requires.stands.0 c.next_read-key.result c.start_step.result.start.taken c.requires.stands.1.fits ready.page like in
    let P : Key → Type 0 = λ k. LaneHas c.args.self.now.setup k c.start_step.result.start.taken in
    let Q : LaneSeen → Type 0 = λ l. LaneHas c.args.self.now.setup c.start_step.result.start.key l in
    subst Q (sym c.start_step.ensures.lane) (subst P (sym c.start_step.ensures.key) has)

pub returns-clause-stands : goal.returns-clause-stands
returns-clause-stands g c = λ h o s.
    let k = c.start_step.result.start.key in
    let next_is : next c.args.self.now ≡ serve.Read k = c.next_read-key.ensures.is ∙ ap serve.Read (sym c.start_step.ensures.key) in
    let step_is : c.start_step.new.self ≡ step.start_read c.args.self.now k = c.start_step.ensures.step ∙ ap (step.start_read c.args.self.now) (sym c.start_step.ensures.key) in
    rw step_is (c.start_read_stands.ensures h o c.args.self.now k s next_is)

pub returns-clause-open_read : goal.returns-clause-open_read
returns-clause-open_read g c = λ h o s.
    let k = c.start_step.result.start.key in
    let lane = c.start_step.result.start.taken in
    let H : Key → Type 0 = λ j. IsHere c.args.self.now j.region lane in
    let here = subst H (sym c.start_step.ensures.key) c.start_step.ensures.here in
    let P : ℕ → Type 0 = λ a. IsOpenRead c.args.self.now.setup ((o, entry.StartRead k) ∷ h) o (record { key = k; at = a; taken = lane }) in
    subst P (sym c.start_step.ensures.at) (c.starts_open.ensures.read h o c.args.self.now k lane s here)

pub returns-clause-here : goal.returns-clause-here
returns-clause-here g c =
    let H : Key → Type 0 = λ j. IsHere c.args.self.now j.region c.start_step.result.start.taken in
    subst H (sym c.start_step.ensures.key) c.start_step.ensures.here
