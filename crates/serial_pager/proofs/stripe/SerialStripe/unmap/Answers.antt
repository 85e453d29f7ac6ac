use Rattle.std.proofs.Common.{[], ap, arith, inl, refl, sym, ◌∙◌, ◌≡◌, false, true}
use Rattle.page_model.specs.Core.{is_unmapped}
use Rattle.serial_pager.proofs.Clearing.{can_unmap, closing_still, failed_closes_one, failed_now, few_pages, unmapped_closes, unmapped_now}
use Rattle.serial_pager.proofs.Goes.{went_nowhere}
use Rattle.serial_pager.proofs.Queues.{few_wait}
use Rattle.serial_pager.proofs.stripe.SerialStripe.unmap.Goals as goal

pub returns-then-is_unmapped-clause-ok : goal.returns-then-is_unmapped-clause-ok
returns-then-is_unmapped-clause-ok g c =
    let done : is_unmapped c.args.self.now.core c.args.region ≡ true = ap (λ v. is_unmapped v.core c.args.region) (sym c.self.view_is) ∙ (sym c.is_unmapped.ensures.exact ∙ c.if-is_unmapped.true) in
    record { entries = []; went = went_nowhere g.J.Journal.has_noted c.args.self.now; how = record { how = inl (done, refl); unmapped = done } }

pub begin_closing-requires-clause-few : goal.begin_closing-requires-clause-few
begin_closing-requires-clause-few g c = omega (arith, c.requires.few)

pub drop_stale-requires-clause-few : goal.drop_stale-requires-clause-few
drop_stale-requires-clause-few g c =
    let wait = few_wait c.model_laws.ensures c.begin_closing.new.self.core c.begin_closing.ensures.rest in
    let more = c.begin_closing.ensures.few in
    omega (arith, wait, more, c.requires.few)

pub clear-requires-clause-few : goal.clear-requires-clause-few
clear-requires-clause-few g c =
    let wait = few_wait c.model_laws.ensures c.begin_closing.new.self.core c.begin_closing.ensures.rest in
    let pages = few_pages c.model_laws.ensures c.drop_stale.new.self.core c.drop_stale.ensures.rest in
    let more = c.begin_closing.ensures.few in
    omega (arith, wait, pages, more, c.drop_stale.ensures.few, c.requires.few)

pub clear-requires-clause-scratch : goal.clear-requires-clause-scratch
clear-requires-clause-scratch g c = c.requires.scratch ∙ sym (ap (λ u. u.page_size) (c.drop_stale.ensures.went.went.setup ∙ c.begin_closing.ensures.went.setup))

pub clear-requires-clause-closing : goal.clear-requires-clause-closing
clear-requires-clause-closing g c = closing_still c.model_laws.ensures g.J.Journal.has_noted c.args.region c.args.self.now c.begin_closing.new.self c.drop_stale.new.self c.requires.rest c.requires.region c.begin_closing.ensures.went c.drop_stale.ensures.went

pub returns-in-Err : goal.returns-in-Err
returns-in-Err g c =
    let wait = few_wait c.model_laws.ensures c.begin_closing.new.self.core c.begin_closing.ensures.rest in
    let pages = few_pages c.model_laws.ensures c.drop_stale.new.self.core c.drop_stale.ensures.rest in
    let more = c.begin_closing.ensures.few in
    let mapped : is_unmapped c.args.self.now.core c.args.region ≡ false = ap (λ v. is_unmapped v.core c.args.region) (sym c.self.view_is) ∙ (sym c.is_unmapped.ensures.exact ∙ c.if-is_unmapped.false) in
    let setup = c.in-Err.ensures.err.went.setup ∙ (c.drop_stale.ensures.went.went.setup ∙ c.begin_closing.ensures.went.setup) in
    let made = c.clear.ensures.made ∙ (c.drop_stale.ensures.made ∙ c.begin_closing.ensures.made) in
    record {
      rest = c.clear.ensures.rest;
      fixed = λ i. record { setup = setup i; journal = made i };
      few = omega (arith, wait, pages, more, c.drop_stale.ensures.few, c.clear.ensures.few);
      closes = failed_closes_one c.model_laws.ensures g.J.Journal.has_noted c.args.region c.args.self.now c.begin_closing.new.self c.drop_stale.new.self c.requires.rest c.requires.region c.begin_closing.ensures.went c.drop_stale.ensures.went c.clear.new.self c.in-Err.fault c.in-Err.ensures.err;
      ok = tt;
      err = failed_now c.model_laws.ensures g.J.Journal.has_noted c.args.region c.args.self.now c.begin_closing.new.self c.drop_stale.new.self c.requires.rest c.requires.region c.begin_closing.ensures.went c.drop_stale.ensures.went c.clear.new.self c.in-Err.fault c.in-Err.ensures.err mapped;
    }

pub end_closing-requires-clause-few : goal.end_closing-requires-clause-few
end_closing-requires-clause-few g c =
    let wait = few_wait c.model_laws.ensures c.begin_closing.new.self.core c.begin_closing.ensures.rest in
    let pages = few_pages c.model_laws.ensures c.drop_stale.new.self.core c.drop_stale.ensures.rest in
    let more = c.begin_closing.ensures.few in
    omega (arith, wait, pages, more, c.drop_stale.ensures.few, c.clear.ensures.few, c.requires.few)

pub end_closing-requires-clause-can : goal.end_closing-requires-clause-can
end_closing-requires-clause-can g c =
    let mapped : is_unmapped c.args.self.now.core c.args.region ≡ false = ap (λ v. is_unmapped v.core c.args.region) (sym c.self.view_is) ∙ (sym c.is_unmapped.ensures.exact ∙ c.if-is_unmapped.false) in
    let three = c.in-Ok.ensures.ok in
    can_unmap c.model_laws.ensures g.J.Journal.has_noted c.args.region c.args.self.now c.begin_closing.new.self c.drop_stale.new.self c.requires.rest c.requires.region c.begin_closing.ensures.went c.drop_stale.ensures.went c.clear.new.self three.entries three.pass three.went
    mapped c.clear.ensures.rest c.drop_stale.ensures.none c.clear.ensures.queue c.in-Ok.ensures.none

pub returns : goal.returns
returns g c =
    let wait = few_wait c.model_laws.ensures c.begin_closing.new.self.core c.begin_closing.ensures.rest in
    let pages = few_pages c.model_laws.ensures c.drop_stale.new.self.core c.drop_stale.ensures.rest in
    let more = c.begin_closing.ensures.few in
    let last = c.end_closing.ensures.went.events in
    let mapped : is_unmapped c.args.self.now.core c.args.region ≡ false = ap (λ v. is_unmapped v.core c.args.region) (sym c.self.view_is) ∙ (sym c.is_unmapped.ensures.exact ∙ c.if-is_unmapped.false) in
    let three = c.in-Ok.ensures.ok in
    let setup = c.end_closing.ensures.went.setup ∙ (three.went.setup ∙ (c.drop_stale.ensures.went.went.setup ∙ c.begin_closing.ensures.went.setup)) in
    let made = c.end_closing.ensures.made ∙ (c.clear.ensures.made ∙ (c.drop_stale.ensures.made ∙ c.begin_closing.ensures.made)) in
    record {
      rest = c.end_closing.ensures.rest;
      fixed = λ i. record { setup = setup i; journal = made i };
      few = omega (arith, wait, pages, more, last, c.drop_stale.ensures.few, c.clear.ensures.few);
      closes = unmapped_closes c.model_laws.ensures g.J.Journal.has_noted c.args.region c.args.self.now c.begin_closing.new.self c.drop_stale.new.self c.requires.rest c.requires.region c.begin_closing.ensures.went c.drop_stale.ensures.went c.clear.new.self three.entries three.pass three.went c.end_closing.new.self c.end_closing.ensures.went;
      ok = unmapped_now c.model_laws.ensures g.J.Journal.has_noted c.args.region c.args.self.now c.begin_closing.new.self c.drop_stale.new.self c.requires.rest c.requires.region c.begin_closing.ensures.went c.drop_stale.ensures.went c.clear.new.self three.entries three.pass three.went c.end_closing.new.self c.end_closing.ensures.went mapped;
      err = tt;
    }
