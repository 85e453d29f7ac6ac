use Rattle.std.proofs.Common.{◌≡◌, ◌∙◌, ◌∷◌, Some, refl, sym, ap, true}
use Rattle.std.specs.Prelude.{option_map}
use Rattle.page_model.specs.declared.entry.Cause.TheVariants.{Pressure}
use Rattle.page_model.specs.declared.entry.Entry.TheVariants as entry
use Rattle.page_model.specs.declared.seen.Pick.{Pick}
use Rattle.page_model.specs.Core as core
use Rattle.core_bench.proofs.calls.make_room.Goals as goal

pub write_out-requires-clause-page : goal.write_out-requires-clause-page
write_out-requires-clause-page g c =
    let s = c.requires.rest in
    (c.picks_know.ensures.picked s.history c.args.stripe.now c.in-Some.pick s.is (sym c.pick.ensures.exact ∙ c.in-Some.is)).page

pub write_out-requires-clause-writable : goal.write_out-requires-clause-writable
write_out-requires-clause-writable g c =
    let s = c.requires.rest in
    c.requires.writable c.in-Some.pick.key (c.picks_know.ensures.picked s.history c.args.stripe.now c.in-Some.pick s.is (sym c.pick.ensures.exact ∙ c.in-Some.is)).page

pub write_out-requires-clause-can : goal.write_out-requires-clause-can
write_out-requires-clause-can g c =
    let s = c.requires.rest in
    let is : core.pick c.args.stripe.now ≡ Some c.in-Some.pick = sym c.pick.ensures.exact ∙ c.in-Some.is in
    let leaves = c.picks_know.ensures.picked s.history c.args.stripe.now c.in-Some.pick s.is is in
    let pressure : core.has_pressure c.args.stripe.now ≡ true = sym c.pressure.ensures.exact ∙ c.if-not-pressure.false in
    record { dirty = leaves.dirty ∙ c.if-pick.true; home = leaves.home c.if-pick.true; fits = record { pressure = pressure; picked = ap (option_map (λ (p : Pick). p.key)) is } }

pub evict-requires-clause-page : goal.evict-requires-clause-page
evict-requires-clause-page g c =
    let s = c.requires.rest in
    (c.picks_know.ensures.picked s.history c.args.stripe.now c.in-Some.pick s.is (sym c.pick.ensures.exact ∙ c.in-Some.is)).page

pub evict-requires-clause-can : goal.evict-requires-clause-can
evict-requires-clause-can g c =
    let s = c.requires.rest in
    let is : core.pick c.args.stripe.now ≡ Some c.in-Some.pick = sym c.pick.ensures.exact ∙ c.in-Some.is in
    let leaves = c.picks_know.ensures.picked s.history c.args.stripe.now c.in-Some.pick s.is is in
    let pressure : core.has_pressure c.args.stripe.now ≡ true = sym c.pressure.ensures.exact ∙ c.if-not-pressure.false in
    record { present = leaves.present; clean = leaves.dirty ∙ c.if-pick.false; not_writing = leaves.not_writing; fits = record { pressure = pressure; picked = ap (option_map (λ (p : Pick). p.key)) is } }

pub returns-in-Some-2-clause-rest : goal.returns-in-Some-2-clause-rest
returns-in-Some-2-clause-rest g c =
    let s = c.requires.rest in
    record { history = (0, entry.Evicted c.in-Some.pick.key Pressure) ∷ s.history; is = c.evict.ensures.stands s.history 0 s.is; flight = λ r. s.flight r }
