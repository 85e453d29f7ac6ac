use Rattle.std.proofs.Common.{rules, ◌≡◌, ◌≢◌, ◌<◌, ◌∷◌, ◌⊎◌, ℕ, [], true, false, length, sym, ap, ◌∙◌, subst, refl, inl, inr}
use Rattle.histories.specs.Histories.{History}
use Rattle.page_base.specs.declared.keys.Why.TheVariants as why
use Rattle.page_model.specs.declared.entry.Entry.{Entry}
use Rattle.page_model.specs.declared.entry.Entry.TheVariants as entry
use Rattle.page_model.specs.Core.{Core}
use Rattle.page_model.specs.Faults.{pending}
use Rattle.page_model.specs.Setups.{Setup, has_page}
use Rattle.page_model.specs.Stands.{StandsFor}
use Rattle.stripe_core.specs.declared.answers.Look.TheVariants as look
use Rattle.stripe_core.specs.declared.answers.Raise.TheVariants as raise
use Rattle.locked_stripe.specs.Terms.{locked_setup}
use Rattle.locked_stripe.proofs.Found.{asked_none, asks_by, closed_save, fault_stores, not_hit, not_raised, raised_waits, unraised_waits}
use Rattle.locked_stripe.proofs.looks.look_store.Goals as goal

pub give-requires-clause-stands : goal.give-requires-clause-stands
give-requires-clause-stands g c =
    let h = c.in-Ok.held.pass.seen in
    let s : StandsFor h c.deref_mut-inner.result.now.stripe = rw c.deref_mut-inner.ensures.value c.in-Ok.ensures.stands.0 in
    let n : g.J.Journal.has_noted c.deref_mut-inner.result.now.journal h = rw c.deref_mut-inner.ensures.value c.in-Ok.ensures.stands.1 in
    (c.save-look.ensures.stands c.in-Hit.is h _ s, rw (sym c.number-owner.ensures) (c.note.ensures.noted h n))

pub returns-in-Closed : goal.returns-in-Closed
returns-in-Closed g c =
    let h = c.in-Ok.held.pass.seen in
    let x = c.deref_mut-inner.result.now.stripe in
    let s : StandsFor h x = rw c.deref_mut-inner.ensures.value c.in-Ok.ensures.stands.0 in
    let same : x.setup ≡ (locked_setup c.args.lock.now) = rw c.deref_mut-inner.ensures.value (ap (λ f. f.setup) c.in-Ok.ensures.fixed) in
    let page : has_page x.setup c.args.key ≡ true = rw same c.requires.in_page.page in
    record { glances = (h, search rules, sym (c.readers_agree.ensures.regions h x c.args.key.region s (c.pages_are_of_stripe.ensures.region x.setup c.args.key page)).closing ∙ closed_save x c.args.key (sym c.in-Closed.is ∙ c.save-look.ensures.answer)) }

pub returns-then-is_other : goal.returns-then-is_other
returns-then-is_other g c =
    let h = c.in-Ok.held.pass.seen in
    let x = c.deref_mut-inner.result.now.stripe in
    let s : StandsFor h x = rw c.deref_mut-inner.ensures.value c.in-Ok.ensures.stands.0 in
    let same : x.setup ≡ (locked_setup c.args.lock.now) = rw c.deref_mut-inner.ensures.value (ap (λ f. f.setup) c.in-Ok.ensures.fixed) in
    let page : has_page x.setup c.args.key ≡ true = rw same c.requires.in_page.page in
    let still : c.save-look.new.self ≡ x = c.save-look.ensures.same (not_hit c.save-look.result c.in-Missing.is) in
    let stands : StandsFor h c.save-look.new.self = rw still s in
    let there : has_page c.save-look.new.self.setup c.args.key ≡ true = rw still page in
    record {
      glances = record {
        found = h;
        held = search rules;
        faults = c.read_fault-faults.ensures.exact ∙ (c.readers_agree.ensures.pages h c.save-look.new.self c.args.key stands there).read_fault;
        other = c.is_other.ensures.other c.if-is_other.true;
      };
    }

pub give-requires-in-Raised-clause-stands : goal.give-requires-in-Raised-clause-stands
give-requires-in-Raised-clause-stands g c =
    let h = c.in-Ok.held.pass.seen in
    let x = c.deref_mut-inner.result.now.stripe in
    let s : StandsFor h x = rw c.deref_mut-inner.ensures.value c.in-Ok.ensures.stands.0 in
    let n : g.J.Journal.has_noted c.deref_mut-inner.result.now.journal h = rw c.deref_mut-inner.ensures.value c.in-Ok.ensures.stands.1 in
    let still : c.save-look.new.self ≡ x = c.save-look.ensures.same (not_hit c.save-look.result c.in-Missing.is) in
    let stands : StandsFor h c.save-look.new.self = rw still s in
    (c.in-Raised.ensures.stands refl h _ stands, rw (sym c.number-owner.ensures) (c.note-in-Raised.ensures.noted h n))

pub returns-in-Raised : goal.returns-in-Raised
returns-in-Raised g c =
    let h = c.in-Ok.held.pass.seen in
    let o = c.in-Ok.held.pass.number in
    let x = c.deref_mut-inner.result.now.stripe in
    let s : StandsFor h x = rw c.deref_mut-inner.ensures.value c.in-Ok.ensures.stands.0 in
    let same : x.setup ≡ (locked_setup c.args.lock.now) = rw c.deref_mut-inner.ensures.value (ap (λ f. f.setup) c.in-Ok.ensures.fixed) in
    let page : has_page x.setup c.args.key ≡ true = rw same c.requires.in_page.page in
    let still : c.save-look.new.self ≡ x = c.save-look.ensures.same (not_hit c.save-look.result c.in-Missing.is) in
    let stands : StandsFor h c.save-look.new.self = rw still s in
    let there : has_page c.save-look.new.self.setup c.args.key ≡ true = rw still page in
    let reads = c.readers_agree.ensures.pages h c.save-look.new.self c.args.key stands there in
    record {
      glances = (
        c.fault_of-why.result,
        rw c.fault_of-why.ensures.exact (fault_stores c.save-look.result),
        record {
          found = h;
          own = entry.Raised c.args.key c.fault_of-why.result ∷ [];
          held = search rules;
          asks = asks_by (locked_setup c.args.lock.now) h c.save-look.new.self c.args.key c.fault_of-why.result c.raise.result _ stands reads (ap (λ (y : Core). y.setup) still ∙ same) c.raise.ensures.answer (rw c.in-Raised.is refl);
          faults = c.read_fault-faults.ensures.exact ∙ (c.readers_agree.ensures.pages h c.save-look.new.self c.args.key stands there).read_fault;
          same = c.is_other.ensures.same c.if-is_other.false;
          pends = λ e. raised_waits c.args.pass.now.number c.args.key c.fault_of-why.result h;
        },
      );
    }

pub returns-in-Pending : goal.returns-in-Pending
returns-in-Pending g c =
    let h = c.in-Ok.held.pass.seen in
    let x = c.deref_mut-inner.result.now.stripe in
    let s : StandsFor h x = rw c.deref_mut-inner.ensures.value c.in-Ok.ensures.stands.0 in
    let same : x.setup ≡ (locked_setup c.args.lock.now) = rw c.deref_mut-inner.ensures.value (ap (λ f. f.setup) c.in-Ok.ensures.fixed) in
    let page : has_page x.setup c.args.key ≡ true = rw same c.requires.in_page.page in
    let still : c.save-look.new.self ≡ x = c.save-look.ensures.same (not_hit c.save-look.result c.in-Missing.is) in
    let stands : StandsFor h c.save-look.new.self = rw still s in
    let there : has_page c.save-look.new.self.setup c.args.key ≡ true = rw still page in
    let reads = c.readers_agree.ensures.pages h c.save-look.new.self c.args.key stands there in
    record {
      glances = (
        c.fault_of-why.result,
        rw c.fault_of-why.ensures.exact (fault_stores c.save-look.result),
        record {
          found = h;
          own = [];
          held = search rules;
          asks = asks_by (locked_setup c.args.lock.now) h c.save-look.new.self c.args.key c.fault_of-why.result c.raise.result _ stands reads (ap (λ (y : Core). y.setup) still ∙ same) c.raise.ensures.answer (asked_none c.raise.result c.args.key c.fault_of-why.result c.in-Pending.is);
          faults = c.read_fault-faults.ensures.exact ∙ reads.read_fault;
          same = c.is_other.ensures.same c.if-is_other.false;
          pends = λ idle. unraised_waits h c.save-look.new.self c.args.key stands (reads.reading ∙ idle) (λ e. not_raised c.raise.result c.in-Pending.is (c.raise.ensures.answer ∙ e));
        },
      );
    }
