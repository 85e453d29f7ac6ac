use Rattle.std.proofs.Common.{ap, subst, sym}
use Rattle.page_model.specs.Core.{Core}
use Rattle.page_model.specs.declared.entry.Entry.TheVariants as entry
use Rattle.serial_pager.specs.Rests.{IsAtRest}
use Rattle.serial_pager.proofs.Goes.{went_once}
use Rattle.serial_pager.proofs.Rests.{rests_alike}
use Rattle.serial_pager.proofs.stripe.SerialStripe.evict.Goals as goal

pub returns-clause-rest : goal.returns-clause-rest
returns-clause-rest g c =
    let rest : IsAtRest c.self.inside.stripe = subst IsAtRest (ap (λ v. v.core) (sym c.self.view_is)) c.requires.rest in
    rests_alike c.self.inside.stripe c.evict.new.self _ rest (c.evict.ensures.stands rest.history 0 rest.stands) c.evict.ensures.fixed (ap (λ (x : Core). x.regions) c.evict.ensures.step)

pub returns-clause-went : goal.returns-clause-went
returns-clause-went g c =
    went_once g.J.Journal.has_noted (entry.Evicted c.args.key c.args.why) c.self.inside.stripe c.evict.new.self c.self.inside.journal c.note.new.self c.args.self.now c.self.view_is
    c.evict.ensures.fixed (ap (λ (x : Core). x.events) c.evict.ensures.step) c.evict.ensures.stands c.note.ensures.noted
