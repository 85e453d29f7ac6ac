use Rattle.std.proofs.Common.{Some, ap, arith, refl, rules, subst, sym, ◌∙◌, ◌≡◌}
use Rattle.page_model.specs.Core.{is_closing, oldest_of}
use Rattle.page_model.specs.Readers.{IsHeldOf}
use Rattle.serial_pager.specs.InsideGoings.{WentBy}
use Rattle.serial_pager.specs.Unmappings.{leaves_region}
use Rattle.serial_pager.proofs.Clearing.{fails_to_leave, leaving_closes, some_pages}
use Rattle.serial_pager.proofs.Goes.{by_none, by_twice}
use Rattle.serial_pager.proofs.stripe.SerialStripe.clear.Goals as goal

pub pages-init : goal.pages-init
pages-init g c = record { rest = c.requires.rest; went = by_none g.J.Journal.has_noted (leaves_region c.args.region) c.args.self.now; queue = refl; few = omega arith; made = refl }

pub let_leave-requires : goal.let_leave-requires
let_leave-requires g c =
    let i = c.pages.invariant in
    let at : oldest_of c.pages.self.core c.args.region ≡ Some c.in-Some.pick = ap (λ v. oldest_of v.core c.args.region) (sym c.self.view_is) ∙ (sym c.oldest_of.ensures.exact ∙ c.in-Some.is) in
    let held : IsHeldOf c.pages.self.core c.args.region c.in-Some.pick = c.picks_know.ensures.oldest i.rest.history c.pages.self.core c.args.region c.in-Some.pick i.rest.stands at in
    let some = some_pages c.pages.self.core c.in-Some.pick.key held.present in
    record {
      rest = i.rest;
      few = omega (arith, i.few, c.requires.few, some);
      scratch = search rules;
      present = held.present;
      dirty = held.dirty;
      closing = ap (is_closing c.pages.self.core) held.region ∙ (leaving_closes c.model_laws.ensures g.J.Journal.has_noted c.args.region c.args.self.now c.pages.self c.requires.rest i.went c.args.region ∙ c.requires.closing);
    }

pub pages-smaller : goal.pages-smaller
pages-smaller g c = c.in-Ok.ensures.fewer

pub pages-preserved : goal.pages-preserved
pages-preserved g c =
    let i = c.pages.invariant in
    let at : oldest_of c.pages.self.core c.args.region ≡ Some c.in-Some.pick = ap (λ v. oldest_of v.core c.args.region) (sym c.self.view_is) ∙ (sym c.oldest_of.ensures.exact ∙ c.in-Some.is) in
    let held : IsHeldOf c.pages.self.core c.args.region c.in-Some.pick = c.picks_know.ensures.oldest i.rest.history c.pages.self.core c.args.region c.in-Some.pick i.rest.stands at in
    let went : WentBy 0 g.J.Journal.has_noted (leaves_region c.args.region) c.pages.self c.let_leave.new.self = subst (λ r. WentBy 0 g.J.Journal.has_noted (leaves_region r) c.pages.self c.let_leave.new.self) held.region c.in-Ok.ensures.went in
    let less = c.in-Ok.ensures.fewer in
    record {
      rest = c.let_leave.ensures.rest;
      went = by_twice g.J.Journal.has_noted (leaves_region c.args.region) c.args.self.now c.pages.self c.let_leave.new.self i.went went;
      queue = c.let_leave.ensures.queue ∙ i.queue;
      few = omega (arith, i.few, less, c.let_leave.ensures.few);
      made = c.let_leave.ensures.made ∙ i.made;
    }

pub returns-in-Err : goal.returns-in-Err
returns-in-Err g c =
    let i = c.pages.invariant in
    let e = c.let_leave.ensures in
    let at : oldest_of c.pages.self.core c.args.region ≡ Some c.in-Some.pick = ap (λ v. oldest_of v.core c.args.region) (sym c.self.view_is) ∙ (sym c.oldest_of.ensures.exact ∙ c.in-Some.is) in
    let held : IsHeldOf c.pages.self.core c.args.region c.in-Some.pick = c.picks_know.ensures.oldest i.rest.history c.pages.self.core c.args.region c.in-Some.pick i.rest.stands at in
    let some = some_pages c.pages.self.core c.in-Some.pick.key held.present in
    record {
      rest = e.rest;
      made = e.made ∙ i.made;
      queue = e.queue ∙ i.queue;
      few = omega (arith, i.few, e.few, some);
      ok = tt;
      none = tt;
      err = fails_to_leave g.J.Journal.has_noted c.args.region c.in-Some.pick.key c.in-Err.fault c.args.self.now c.pages.self c.let_leave.new.self held.region c.in-Err.ensures.key i.went c.in-Err.ensures.ends;
    }

pub returns-clause-few : goal.returns-clause-few
returns-clause-few g c = let i = c.pages.invariant in omega (arith, i.few)

pub returns-clause-none : goal.returns-clause-none
returns-clause-none g c = ap (λ v. oldest_of v.core c.args.region) (sym c.self.view_is) ∙ (sym c.oldest_of.ensures.exact ∙ c.in_default.is)
