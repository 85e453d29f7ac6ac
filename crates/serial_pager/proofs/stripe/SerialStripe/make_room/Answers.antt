use Rattle.std.proofs.Common.{ap, inl, inr, sym, Some, ◌∙◌, ◌≡◌}
use Rattle.page_model.specs.Core.{pick}
use Rattle.page_model.specs.Readers.{MayLeave}
use Rattle.serial_pager.proofs.Results.{on_ok}
use Rattle.serial_pager.proofs.Rooms.{picks_now, some_pick}
use Rattle.serial_pager.proofs.stripe.SerialStripe.make_room.Goals as goal

pub write_out-requires-clause-page : goal.write_out-requires-clause-page
write_out-requires-clause-page g c =
    let is : pick c.args.self.now.core ≡ Some c.in-Some.pick = ap (λ v. pick v.core) (sym c.self.view_is) ∙ (sym c.pick.ensures.exact ∙ c.in-Some.is) in
    (c.picks_know.ensures.picked c.requires.rest.history c.args.self.now.core c.in-Some.pick c.requires.rest.stands is).page

pub write_out-requires-clause-can : goal.write_out-requires-clause-can
write_out-requires-clause-can g c =
    let is : pick c.args.self.now.core ≡ Some c.in-Some.pick = ap (λ v. pick v.core) (sym c.self.view_is) ∙ (sym c.pick.ensures.exact ∙ c.in-Some.is) in
    let may : MayLeave c.args.self.now.core c.in-Some.pick = c.picks_know.ensures.picked c.requires.rest.history c.args.self.now.core c.in-Some.pick c.requires.rest.stands is in
    record { dirty = may.dirty ∙ c.if-pick.true; home = may.home c.if-pick.true; fits = (picks_now c.args.self.now.core c.in-Some.pick c.requires.next is).picked }

pub evict-requires-clause-page : goal.evict-requires-clause-page
evict-requires-clause-page g c =
    let is : pick c.args.self.now.core ≡ Some c.in-Some.pick = ap (λ v. pick v.core) (sym c.self.view_is) ∙ (sym c.pick.ensures.exact ∙ c.in-Some.is) in
    (c.picks_know.ensures.picked c.requires.rest.history c.args.self.now.core c.in-Some.pick c.requires.rest.stands is).page

pub evict-requires-clause-can : goal.evict-requires-clause-can
evict-requires-clause-can g c =
    let is : pick c.args.self.now.core ≡ Some c.in-Some.pick = ap (λ v. pick v.core) (sym c.self.view_is) ∙ (sym c.pick.ensures.exact ∙ c.in-Some.is) in
    let may : MayLeave c.args.self.now.core c.in-Some.pick = c.picks_know.ensures.picked c.requires.rest.history c.args.self.now.core c.in-Some.pick c.requires.rest.stands is in
    record { present = may.present; clean = may.dirty ∙ c.if-pick.false; not_writing = may.not_writing; fits = (picks_now c.args.self.now.core c.in-Some.pick c.requires.next is).picked }

pub unreachable-requires : goal.unreachable-requires
unreachable-requires g c = some_pick c.model_laws.ensures c.args.self.now.core c.requires.rest c.requires.next c.requires.waits (ap (λ v. pick v.core) (sym c.self.view_is) ∙ (sym c.pick.ensures.exact ∙ c.in-None.is))

pub returns-in-Some-clause-steps : goal.returns-in-Some-clause-steps
returns-in-Some-clause-steps g c =
    let is : pick c.args.self.now.core ≡ Some c.in-Some.pick = ap (λ v. pick v.core) (sym c.self.view_is) ∙ (sym c.pick.ensures.exact ∙ c.in-Some.is) in
    let may : MayLeave c.args.self.now.core c.in-Some.pick = c.picks_know.ensures.picked c.requires.rest.history c.args.self.now.core c.in-Some.pick c.requires.rest.stands is in
    on_ok c.write_out.result c.write_out.ensures.steps (λ w. inl (record { key = c.in-Some.pick.key; picks = picks_now c.args.self.now.core c.in-Some.pick c.requires.next is; dirty = may.dirty ∙ c.if-pick.true; writes = w }))

pub returns-in-Some-2-clause-steps : goal.returns-in-Some-2-clause-steps
returns-in-Some-2-clause-steps g c =
    let is : pick c.args.self.now.core ≡ Some c.in-Some.pick = ap (λ v. pick v.core) (sym c.self.view_is) ∙ (sym c.pick.ensures.exact ∙ c.in-Some.is) in
    let may : MayLeave c.args.self.now.core c.in-Some.pick = c.picks_know.ensures.picked c.requires.rest.history c.args.self.now.core c.in-Some.pick c.requires.rest.stands is in
    inr (record { key = c.in-Some.pick.key; picks = picks_now c.args.self.now.core c.in-Some.pick c.requires.next is; clean = may.dirty ∙ c.if-pick.false; is = c.evict.ensures.step })
