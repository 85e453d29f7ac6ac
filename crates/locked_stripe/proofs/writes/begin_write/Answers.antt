use Rattle.std.proofs.Common.{rules, ◌≡◌, ◌∷◌, [], Some, true, false, sym, ap, ◌∙◌, subst, refl, option_map}
use Rattle.histories.specs.Histories.{History}
use Rattle.page_model.specs.declared.entry.Cause.TheVariants.{Pressure}
use Rattle.page_model.specs.declared.entry.Entry.TheVariants as entry
use Rattle.page_model.specs.declared.seen.Pick.{Pick}
use Rattle.page_model.specs.Core.{Core, pick, has_pressure}
use Rattle.page_model.specs.Readers.{LaneHas}
use Rattle.page_model.specs.Setups.{Setup}
use Rattle.page_model.specs.Stands.{StandsFor}
use Rattle.locked_stripe.specs.Terms.{locked_setup}
use Rattle.locked_stripe.proofs.Open.{taken_now}
use Rattle.locked_stripe.proofs.writes.begin_write.Goals as goal

pub start_write-trip-requires-clause-page : goal.start_write-trip-requires-clause-page
start_write-trip-requires-clause-page g c =
    let h = c.in-Ok.held.pass.seen in
    let s : StandsFor h c.deref_mut-inner.result.now.stripe = rw c.deref_mut-inner.ensures.value c.in-Ok.ensures.stands.0 in
    let is : pick c.deref_mut-inner.result.now.stripe ≡ Some c.in-Some.pick = sym c.pick.ensures.exact ∙ c.in-Some.is in
    (c.picks_know.ensures.picked h c.deref_mut-inner.result.now.stripe c.in-Some.pick s is).page

pub start_write-trip-requires-clause-can : goal.start_write-trip-requires-clause-can
start_write-trip-requires-clause-can g c =
    let h = c.in-Ok.held.pass.seen in
    let s : StandsFor h c.deref_mut-inner.result.now.stripe = rw c.deref_mut-inner.ensures.value c.in-Ok.ensures.stands.0 in
    let is : pick c.deref_mut-inner.result.now.stripe ≡ Some c.in-Some.pick = sym c.pick.ensures.exact ∙ c.in-Some.is in
    let known = c.picks_know.ensures.picked h c.deref_mut-inner.result.now.stripe c.in-Some.pick s is in
    record { dirty = known.dirty ∙ c.if-pick.true; home = known.home c.if-pick.true; fits = record { pressure = search rules; picked = ap (option_map (λ (p : Pick). p.key)) is } }

pub give-requires-clause-stands : goal.give-requires-clause-stands
give-requires-clause-stands g c =
    let h = c.in-Ok.held.pass.seen in
    let s : StandsFor h c.deref_mut-inner.result.now.stripe = rw c.deref_mut-inner.ensures.value c.in-Ok.ensures.stands.0 in
    let n : g.J.Journal.has_noted c.deref_mut-inner.result.now.journal h = rw c.deref_mut-inner.ensures.value c.in-Ok.ensures.stands.1 in
    (c.start_write-trip.ensures.stands h _ s, rw (sym c.number-owner.ensures) (c.note.ensures.noted h n))

pub evict-requires-clause-page : goal.evict-requires-clause-page
evict-requires-clause-page g c =
    let h = c.in-Ok.held.pass.seen in
    let s : StandsFor h c.deref_mut-inner.result.now.stripe = rw c.deref_mut-inner.ensures.value c.in-Ok.ensures.stands.0 in
    let is : pick c.deref_mut-inner.result.now.stripe ≡ Some c.in-Some.pick = sym c.pick.ensures.exact ∙ c.in-Some.is in
    (c.picks_know.ensures.picked h c.deref_mut-inner.result.now.stripe c.in-Some.pick s is).page

pub evict-requires-clause-can : goal.evict-requires-clause-can
evict-requires-clause-can g c =
    let h = c.in-Ok.held.pass.seen in
    let s : StandsFor h c.deref_mut-inner.result.now.stripe = rw c.deref_mut-inner.ensures.value c.in-Ok.ensures.stands.0 in
    let is : pick c.deref_mut-inner.result.now.stripe ≡ Some c.in-Some.pick = sym c.pick.ensures.exact ∙ c.in-Some.is in
    let known = c.picks_know.ensures.picked h c.deref_mut-inner.result.now.stripe c.in-Some.pick s is in
    record { present = known.present; clean = known.dirty ∙ c.if-pick.false; not_writing = known.not_writing; fits = record { pressure = search rules; picked = ap (option_map (λ (p : Pick). p.key)) is } }

pub give-requires-else-pick-clause-stands : goal.give-requires-else-pick-clause-stands
give-requires-else-pick-clause-stands g c =
    let h = c.in-Ok.held.pass.seen in
    let s : StandsFor h c.deref_mut-inner.result.now.stripe = rw c.deref_mut-inner.ensures.value c.in-Ok.ensures.stands.0 in
    let n : g.J.Journal.has_noted c.deref_mut-inner.result.now.journal h = rw c.deref_mut-inner.ensures.value c.in-Ok.ensures.stands.1 in
    (c.evict.ensures.stands h _ s, rw (sym c.number-owner.ensures) (c.note-else-pick.ensures.noted h n))

pub returns-then-pick-clause-taken : goal.returns-then-pick-clause-taken
returns-then-pick-clause-taken g c =
    let h = c.in-Ok.held.pass.seen in
    let o = c.in-Ok.held.pass.number in
    let s : StandsFor h c.deref_mut-inner.result.now.stripe = rw c.deref_mut-inner.ensures.value c.in-Ok.ensures.stands.0 in
    let same : c.deref_mut-inner.result.now.stripe.setup ≡ (locked_setup c.args.lock.now) = rw c.deref_mut-inner.ensures.value (ap (λ f. f.setup) c.in-Ok.ensures.fixed) in
    taken_now c.deref_mut-inner.result.now.stripe.setup _ h _ o (entry.StartWrite c.in-Some.pick.key Pressure) c.in-Some.pick.key c.start_write-trip.result.start.key c.start_write-trip.new.scratch (c.start_write-trip.ensures.taken h o s) same (sym c.start_write-trip.ensures.key) (search rules)

pub returns-then-pick-clause-lane : goal.returns-then-pick-clause-lane
returns-then-pick-clause-lane g c =
    let h = c.in-Ok.held.pass.seen in
    let s : StandsFor h c.deref_mut-inner.result.now.stripe = rw c.deref_mut-inner.ensures.value c.in-Ok.ensures.stands.0 in
    let same : c.deref_mut-inner.result.now.stripe.setup ≡ (locked_setup c.args.lock.now) = rw c.deref_mut-inner.ensures.value (ap (λ f. f.setup) c.in-Ok.ensures.fixed) in
    record { fresh = c.start_write-trip.ensures.lane; has = rw (sym same, c.start_write-trip.ensures.key) (c.start_write-trip.ensures.serves h s); some = rw (sym same) s.fits.some_bytes }
