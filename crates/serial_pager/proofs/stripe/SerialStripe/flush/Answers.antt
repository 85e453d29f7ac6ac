use Rattle.std.proofs.Common.{ap, arith, false, refl, subst, sym, ◌∙◌}
use Rattle.page_model.specs.Core.{next_dirty}
use Rattle.page_model.specs.Readers.{IsNextToFlush}
use Rattle.page_model.specs.declared.entry.Cause.TheVariants.{Flush}
use Rattle.serial_pager.specs.InsideGoings.{FailsToWriteOut}
use Rattle.serial_pager.specs.InsideServices.{FailsToWrite}
use Rattle.serial_pager.proofs.Flushes.{flush_failed, flush_failed_closes, flushed, flushes_close, left_less, room_left, tried_more, tried_none}
use Rattle.serial_pager.proofs.stripe.SerialStripe.flush.Goals as goal

pub pages-init : goal.pages-init
pages-init g c = record { tried = tried_none g.J.Journal.has_noted c.args.self.now c.requires.rest; made = refl }

pub write_out-requires-clause-few : goal.write_out-requires-clause-few
write_out-requires-clause-few g c =
    let few = c.pages.invariant.tried.few in
    let room = room_left c.model_laws.ensures c.args.self.now.core c.requires.rest in
    omega (arith, few, room, c.requires.few)

pub write_out-requires-clause-can : goal.write_out-requires-clause-can
write_out-requires-clause-can g c =
    let t = c.pages.invariant.tried in
    let next : IsNextToFlush c.pages.self.core c.pages.last c.in-Some.key = c.model_laws.ensures.flush.next t.rest.history c.pages.self.core c.pages.last c.in-Some.key t.rest.stands (ap (λ v. next_dirty v.core c.pages.last) (sym c.self.view_is) ∙ sym c.in-Some.ensures.exact) in
    record { dirty = next.dirty; home = t.rest.home c.in-Some.key.region (c.model_laws.ensures.pages.region c.pages.self.core.setup c.in-Some.key next.page); fits = tt }

pub pages-smaller : goal.pages-smaller
pages-smaller g c =
    let t = c.pages.invariant.tried in
    let next : IsNextToFlush c.pages.self.core c.pages.last c.in-Some.key = c.model_laws.ensures.flush.next t.rest.history c.pages.self.core c.pages.last c.in-Some.key t.rest.stands (ap (λ v. next_dirty v.core c.pages.last) (sym c.self.view_is) ∙ sym c.in-Some.ensures.exact) in
    let less = left_less g.J.Journal.has_noted c.model_laws.ensures c.pages.last false false c.in-Some.key c.args.self.now c.pages.self c.write_out.new.self t next c.write_out.ensures.rest c.in-Ok.ensures.steps c.in-Ok.ensures.went in
    omega (arith, less)

pub pages-preserved : goal.pages-preserved
pages-preserved g c =
    let t = c.pages.invariant.tried in
    let next : IsNextToFlush c.pages.self.core c.pages.last c.in-Some.key = c.model_laws.ensures.flush.next t.rest.history c.pages.self.core c.pages.last c.in-Some.key t.rest.stands (ap (λ v. next_dirty v.core c.pages.last) (sym c.self.view_is) ∙ sym c.in-Some.ensures.exact) in
    record {
      tried = tried_more g.J.Journal.has_noted c.model_laws.ensures c.pages.last false false c.in-Some.key c.args.self.now c.pages.self c.write_out.new.self t next c.write_out.ensures.rest c.in-Ok.ensures.steps c.in-Ok.ensures.went;
      made = c.write_out.ensures.made ∙ c.pages.invariant.made;
    }

pub returns-in-Err : goal.returns-in-Err
returns-in-Err g c =
    let t = c.pages.invariant.tried in
    let a = c.pages.self in
    let b = c.write_out.new.self in
    let f = c.in-Err.fault in
    let e = c.in-Err.ensures in
    let next : IsNextToFlush a.core c.pages.last c.in-Some.key = c.model_laws.ensures.flush.next t.rest.history a.core c.pages.last c.in-Some.key t.rest.stands (ap (λ v. next_dirty v.core c.pages.last) (sym c.self.view_is) ∙ sym c.in-Some.ensures.exact) in
    let there : IsNextToFlush a.core c.pages.last f.key = subst (λ k. IsNextToFlush a.core c.pages.last k) (sym e.fault.key) next in
    let does : FailsToWrite f.key a.core b.core f = subst (λ k. FailsToWrite k a.core b.core f) (sym e.fault.key) e.fault in
    let went : FailsToWriteOut 0 g.J.Journal.has_noted f.key Flush a b f = subst (λ k. FailsToWriteOut 0 g.J.Journal.has_noted k Flush a b f) (sym e.fault.key) e.ends in
    let setup = e.ends.setup ∙ t.back.went.setup in
    let made = c.write_out.ensures.made ∙ c.pages.invariant.made in
    let room = room_left c.model_laws.ensures c.args.self.now.core c.requires.rest in
    record {
      rest = c.write_out.ensures.rest;
      fixed = λ i. record { setup = setup i; journal = made i };
      few = omega (arith, t.few, room, went.events);
      closes = flush_failed_closes g.J.Journal.has_noted c.model_laws.ensures c.pages.last f c.args.self.now a b t there c.write_out.ensures.rest does went c.requires.rest;
      ok = tt;
      err = flush_failed g.J.Journal.has_noted c.model_laws.ensures c.pages.last f c.args.self.now a b t there c.write_out.ensures.rest does went;
    }

pub returns : goal.returns
returns g c =
    let t = c.pages.invariant.tried in
    let made = c.pages.invariant.made in
    let room = room_left c.model_laws.ensures c.args.self.now.core c.requires.rest in
    record {
      rest = t.rest;
      fixed = λ i. record { setup = t.back.went.setup i; journal = made i };
      few = omega (arith, t.few, room);
      closes = flushes_close c.model_laws.ensures g.J.Journal.has_noted false c.args.self.now c.pages.self c.requires.rest t.back;
      ok = flushed g.J.Journal.has_noted c.model_laws.ensures c.pages.last c.args.self.now c.pages.self t (ap (λ v. next_dirty v.core c.pages.last) (sym c.self.view_is) ∙ sym c.in_default.ensures.exact);
      err = tt;
    }
