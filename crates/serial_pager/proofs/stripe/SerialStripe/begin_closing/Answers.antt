use Rattle.std.proofs.Common.{[], ◌∷◌, ap, cond, refl, subst, sym, ◌∙◌, ◌≡◌, true, false}
use Rattle.page_model.specs.Core.{Core, is_closing}
use Rattle.page_model.specs.declared.entry.Entry.TheVariants as entry
use Rattle.serial_pager.specs.Goings.{Went}
use Rattle.serial_pager.specs.Rests.{IsAtRest}
use Rattle.serial_pager.proofs.Clearing.{rests_changed}
use Rattle.serial_pager.proofs.Goes.{seen, went_nowhere, went_once}
use Rattle.serial_pager.proofs.stripe.SerialStripe.begin_closing.Goals as goal

pub returns-then-is_closing-clause-went : goal.returns-then-is_closing-clause-went
returns-then-is_closing-clause-went g c =
    let closing : is_closing c.args.self.now.core c.args.region ≡ true = ap (λ v. is_closing v.core c.args.region) (sym c.self.view_is) ∙ (sym c.is_closing.ensures.exact ∙ c.if-is_closing.true) in
    subst (λ b. Went 0 g.J.Journal.has_noted (cond b [] (entry.Closing c.args.region ∷ [])) c.args.self.now c.args.self.now) (sym closing) (went_nowhere g.J.Journal.has_noted c.args.self.now)

pub returns-clause-rest : goal.returns-clause-rest
returns-clause-rest g c =
    let rest : IsAtRest c.self.inside.stripe = subst IsAtRest (ap (λ v. v.core) (sym c.self.view_is)) c.requires.rest in
    let call = c.closing in
    rests_changed c.self.inside.stripe call.new.self _ c.args.region (λ x. record x { closing = true }) (λ x. refl) rest (call.ensures.stands rest.history 0 rest.stands) call.ensures.fixed (ap (λ (x : Core). x.regions) call.ensures.step)

pub returns-clause-went : goal.returns-clause-went
returns-clause-went g c =
    let open_ : is_closing c.args.self.now.core c.args.region ≡ false = ap (λ v. is_closing v.core c.args.region) (sym c.self.view_is) ∙ (sym c.is_closing.ensures.exact ∙ c.if-is_closing.false) in
    let call = c.closing in
    subst (λ b. Went 0 g.J.Journal.has_noted (cond b [] (entry.Closing c.args.region ∷ [])) c.args.self.now (seen g.J.Journal.has_noted call.new.self c.note.new.self)) (sym open_)
    (went_once g.J.Journal.has_noted (entry.Closing c.args.region) c.self.inside.stripe call.new.self c.self.inside.journal c.note.new.self c.args.self.now c.self.view_is
    call.ensures.fixed (ap (λ (x : Core). x.events) call.ensures.step) call.ensures.stands c.note.ensures.noted)
