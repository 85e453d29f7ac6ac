use Rattle.std.proofs.Common.{Bool, ap, false, inl, inr, refl, subst, sym, true, [], ◌∷◌, ◌&&◌, ◌∙◌, ◌<◌, ◌≡◌, ◌≢◌, ◌⊎◌, length}
use Rattle.page_base.specs.Pages.{same}
use Rattle.page_model.specs.declared.entry.Entry.TheVariants as entry
use Rattle.page_model.specs.Core.{Core}
use Rattle.stripe_core.specs.Answers.{raise_answer}
use Rattle.stripe_core.specs.declared.answers.Raise.{Raise}
use Rattle.stripe_core.specs.declared.answers.Raise.TheVariants as raise
use Rattle.serial_pager.specs.Accesses.{serves}
use Rattle.serial_pager.specs.InsideGoings.{WentBy}
use Rattle.serial_pager.specs.Rests.{IsAtRest}
use Rattle.serial_pager.proofs.Goes.{by_none, by_these, seen, went_once}
use Rattle.serial_pager.proofs.Pages.{same_self}
use Rattle.serial_pager.proofs.Rests.{rests_alike}
use Rattle.serial_pager.proofs.Queues.{unraised_waits}
use Rattle.serial_pager.proofs.stripe.SerialStripe.raise.Goals as goal

pub returns-in-Raised-clause-rest : goal.returns-in-Raised-clause-rest
returns-in-Raised-clause-rest g c =
    let rest : IsAtRest c.self.inside.stripe = subst IsAtRest (ap (λ v. v.core) (sym c.self.view_is)) c.requires.rest in
    rests_alike c.self.inside.stripe c.raise.new.self _ rest (c.in-Raised.ensures.stands refl rest.history 0 rest.stands) c.in-Raised.ensures.fixed (ap (λ (x : Core). x.regions) (c.in-Raised.ensures.step refl))

pub returns-in-Raised-clause-went : goal.returns-in-Raised-clause-went
returns-in-Raised-clause-went g c = λ reasons ok.
    let e = entry.Raised c.args.key c.args.why in
    by_these g.J.Journal.has_noted (serves c.args.key reasons) (e ∷ []) c.args.self.now _
    (went_once g.J.Journal.has_noted e c.self.inside.stripe c.raise.new.self c.self.inside.journal c.note.new.self c.args.self.now c.self.view_is
    c.in-Raised.ensures.fixed (ap (λ (x : Core). x.events) (c.in-Raised.ensures.step refl)) (c.in-Raised.ensures.stands refl) c.note.ensures.noted)
    (passes (same c.args.key c.args.key) (reasons c.args.why) (same_self c.args.key) ok)
  where
    passes : (a b : Bool) → a ≡ true → b ≡ true → ((a && b) && true) ≡ true
    passes true true p q = refl
    passes true false p q = absurd cc
    passes false b p q = absurd cc

unlike : (r : Raise) → r ≡ raise.Raised → (r ≡ raise.Pending) ⊎ (r ≡ raise.QueueFull) → ⊥
unlike r e either = elim either [
  | inl pending ↦ let no : raise.Raised ≡ raise.Pending = sym e ∙ pending in absurd cc
  | inr full ↦ let no : raise.Raised ≡ raise.QueueFull = sym e ∙ full in absurd cc
]

pub returns-in-Pending : goal.returns-in-Pending
returns-in-Pending g c =
    let ne : c.raise.result ≢ raise.Raised = λ e. unlike c.raise.result e c.in-Pending.is in
    let still : c.raise.new.self ≡ c.self.inside.stripe = c.raise.ensures.same ne in
    let core : c.raise.new.self ≡ c.args.self.now.core = still ∙ ap (λ v. v.core) c.self.view_is in
    let answer : raise_answer c.args.self.now.core c.args.key ≢ raise.Raised = λ e. ne (c.raise.ensures.answer ∙ (ap (λ x. raise_answer x.core c.args.key) c.self.view_is ∙ e)) in
    let new_is = ap (λ (x : Core). seen g.J.Journal.has_noted x c.self.inside.journal) still ∙ c.self.view_is in
    record {
      rest = subst IsAtRest (sym core) c.requires.rest;
      made = ap (λ v. g.J.Journal.made_with v.journal) c.self.view_is;
      waits = subst (λ (x : Core). 0 < length x.queue) (sym core) (unraised_waits c.model_laws.ensures c.args.self.now.core c.args.key c.requires.rest c.requires.page answer);
      steps = inr (answer, core);
      went = λ reasons ok. subst (λ v. WentBy 0 g.J.Journal.has_noted (serves c.args.key reasons) c.args.self.now v) (sym new_is) (by_none g.J.Journal.has_noted (serves c.args.key reasons) c.args.self.now);
    }
