use Rattle.std.proofs.Common.{ap, subst, sym}
use Rattle.page_model.specs.Core.{Core}
use Rattle.page_model.specs.declared.entry.Entry.TheVariants as entry
use Rattle.serial_pager.specs.Rests.{IsAtRest}
use Rattle.serial_pager.proofs.Goes.{went_once}
use Rattle.serial_pager.proofs.Rests.{rests_alike}
use Rattle.serial_pager.proofs.stripe.SerialStripe.drop_raise.Goals as goal

pub returns-clause-rest : goal.returns-clause-rest
returns-clause-rest g c =
    let rest : IsAtRest c.self.inside.stripe = subst IsAtRest (ap (λ v. v.core) (sym c.self.view_is)) c.requires.rest in
    let call = c.drop_raise-key in
    rests_alike c.self.inside.stripe call.new.self _ rest (call.ensures.stands rest.history 0 rest.stands) call.ensures.fixed (ap (λ (x : Core). x.regions) call.ensures.step)

pub returns-clause-went : goal.returns-clause-went
returns-clause-went g c =
    let call = c.drop_raise-key in (
      call.result,
      went_once g.J.Journal.has_noted (entry.Dropped call.result) c.self.inside.stripe call.new.self c.self.inside.journal c.note.new.self c.args.self.now c.self.view_is
          call.ensures.fixed (ap (λ (x : Core). x.events) call.ensures.step) call.ensures.stands c.note.ensures.noted,
    )
