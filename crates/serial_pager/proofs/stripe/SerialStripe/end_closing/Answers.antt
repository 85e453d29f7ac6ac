use Rattle.std.proofs.Common.{ap, refl, subst, sym, true}
use Rattle.page_model.specs.Core.{Core}
use Rattle.page_model.specs.declared.entry.Entry.TheVariants as entry
use Rattle.serial_pager.specs.Rests.{IsAtRest}
use Rattle.serial_pager.proofs.Clearing.{rests_changed}
use Rattle.serial_pager.proofs.Goes.{went_once}
use Rattle.serial_pager.proofs.stripe.SerialStripe.end_closing.Goals as goal

pub returns-clause-rest : goal.returns-clause-rest
returns-clause-rest g c =
    let rest : IsAtRest c.self.inside.stripe = subst IsAtRest (ap (λ v. v.core) (sym c.self.view_is)) c.requires.rest in
    let call = c.unmapped in
    rests_changed c.self.inside.stripe call.new.self _ c.args.region (λ x. record x { unmapped = true }) (λ x. refl) rest (call.ensures.stands rest.history 0 rest.stands) call.ensures.fixed (ap (λ (x : Core). x.regions) call.ensures.step)

pub returns-clause-went : goal.returns-clause-went
returns-clause-went g c =
    let call = c.unmapped in
    went_once g.J.Journal.has_noted (entry.Unmapped c.args.region) c.self.inside.stripe call.new.self c.self.inside.journal c.note.new.self c.args.self.now c.self.view_is
    call.ensures.fixed (ap (λ (x : Core). x.events) call.ensures.step) call.ensures.stands c.note.ensures.noted
