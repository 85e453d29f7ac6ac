use Rattle.std.proofs.Common.{ap, subst, sym, ◌+◌, ◌∙◌, ◌≡◌}
use Rattle.page_base.specs.Lanes.{LaneSeen}
use Rattle.page_model.specs.Core.{Core, Writing}
use Rattle.page_model.specs.Readers.{IsHere, LaneHas}
use Rattle.page_model.specs.Steps as step
use Rattle.page_model.specs.Steps.{on_region, placed}
use Rattle.stripe_core.proofs.Writing.{copy_taken}
use Rattle.stripe_core.proofs.stripe.Stripe.start_write.Goals as goal

pub returns-clause-stands : goal.returns-clause-stands
returns-clause-stands g c =
    λ h o s.
    let out : Core → Core = λ v. record v { regions = on_region c.args.key.region (placed (Writing c.args.key v.events)) v.regions; events = v.events + 1 } in
    let made : c.send_lane.new.self ≡ step.start_write c.args.self.now c.args.key = c.send_lane.ensures.step ∙ ap out c.take_copy.ensures.step in
    rw made (c.start_write_stands.ensures h o c.args.self.now c.args.key c.args.why s c.requires.can)

pub returns-clause-taken : goal.returns-clause-taken
returns-clause-taken g c = λ h o s. copy_taken c.pages_show.ensures h o c.args.self.now c.args.key c.args.why c.take_copy.new.scratch s c.take_copy.ensures.copy

pub returns-clause-here : goal.returns-clause-here
returns-clause-here g c =
    let here = subst (λ (x : Core). IsHere x c.args.key.region c.send_lane.result.start.taken) c.take_copy.ensures.step c.send_lane.ensures.here in
    record { region = here.region; is = here.is; home = here.home }

pub returns-clause-serves : goal.returns-clause-serves
returns-clause-serves g c =
    λ h s.
    let lane = c.send_lane.result.start.taken in
    let here = subst (λ (x : Core). IsHere x c.args.key.region lane) c.take_copy.ensures.step c.send_lane.ensures.here in
    let at_home : IsHere c.args.self.now c.args.key.region lane = record { region = here.region; is = here.is; home = here.home } in
    let like = c.service_knows.ensures.like h c.args.self.now c.args.key.region lane s at_home in
    let has = c.service_knows.ensures.lane_has c.args.self.now.setup h c.args.key lane s.fits c.requires.page like in
    subst (λ (l : LaneSeen). LaneHas c.args.self.now.setup c.args.key l) (sym c.send_lane.ensures.lane) has
