use Rattle.std.proofs.Common.{ap, refl, subst, sym, ◌∙◌, ◌≡◌}
use Rattle.page_model.specs.declared.entry.Entry.TheVariants as entry
use Rattle.page_model.specs.Core.{Core}
use Rattle.serial_pager.specs.Accesses.{is_for_store, serves}
use Rattle.serial_pager.specs.InsideGoings.{WentBy}
use Rattle.serial_pager.specs.Rests.{IsAtRest}
use Rattle.serial_pager.proofs.Goes.{seen, went_once}
use Rattle.serial_pager.proofs.Rests.{rests_alike}
use Rattle.serial_pager.proofs.stripe.SerialStripe.try_store.Goals as goal

pub returns-in-Hit-clause-rest : goal.returns-in-Hit-clause-rest
returns-in-Hit-clause-rest g c =
    let rest : IsAtRest c.self.inside.stripe = subst IsAtRest (ap (λ v. v.core) (sym c.self.view_is)) c.requires.rest in
    rests_alike c.self.inside.stripe c.save.new.self _ rest (c.in-Hit.ensures.stands refl rest.history 0 rest.stands) c.in-Hit.ensures.fixed (ap (λ (x : Core). x.regions) (c.in-Hit.ensures.step refl))

pub returns-in-Hit-clause-went : goal.returns-in-Hit-clause-went
returns-in-Hit-clause-went g c = λ _.
    went_once g.J.Journal.has_noted (entry.Save c.args.key c.args.place c.args.bytes.now) c.self.inside.stripe c.save.new.self c.self.inside.journal c.note.new.self c.args.self.now c.self.view_is
    c.in-Hit.ensures.fixed (ap (λ (x : Core). x.events) (c.in-Hit.ensures.step refl)) (c.in-Hit.ensures.stands refl) c.note.ensures.noted

pub returns-in-Missing-clause-before : goal.returns-in-Missing-clause-before
returns-in-Missing-clause-before g c = λ _.
    let still : c.save.new.self ≡ c.self.inside.stripe = c.in-Missing.ensures.same (λ e. cc) in
    let now = ap (λ (x : Core). seen g.J.Journal.has_noted x c.self.inside.journal) still ∙ c.self.view_is in
    subst (λ v. WentBy 0 g.J.Journal.has_noted (serves c.args.key is_for_store) v c.raise.new.self) now (c.raise.ensures.went is_for_store refl)

pub returns-in-Protected-clause-before : goal.returns-in-Protected-clause-before
returns-in-Protected-clause-before g c = λ _.
    let still : c.save.new.self ≡ c.self.inside.stripe = c.in-Protected.ensures.same (λ e. cc) in
    let now = ap (λ (x : Core). seen g.J.Journal.has_noted x c.self.inside.journal) still ∙ c.self.view_is in
    subst (λ v. WentBy 0 g.J.Journal.has_noted (serves c.args.key is_for_store) v c.raise-in-Protected.new.self) now (c.raise-in-Protected.ensures.went is_for_store refl)
