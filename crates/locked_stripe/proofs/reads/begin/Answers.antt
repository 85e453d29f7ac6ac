use Rattle.std.proofs.Common.{rules, ◌≡◌, ◌∷◌, [], sym, ap, ◌∙◌, subst, false}
use Rattle.page_model.specs.declared.entry.Entry.TheVariants as entry
use Rattle.locked_stripe.specs.Terms.{locked_setup}
use Rattle.locked_stripe.proofs.Open.{open_now}
use Rattle.page_model.specs.Stands.{StandsFor}
use Rattle.locked_stripe.proofs.reads.begin.Goals as goal

pub give-requires-clause-stands : goal.give-requires-clause-stands
give-requires-clause-stands g c =
    let s : StandsFor c.in-Ok.held.pass.seen c.deref_mut-inner.result.now.stripe = rw c.deref_mut-inner.ensures.value c.in-Ok.ensures.stands.0 in
    let n : g.J.Journal.has_noted c.deref_mut-inner.result.now.journal c.in-Ok.held.pass.seen = rw c.deref_mut-inner.ensures.value c.in-Ok.ensures.stands.1 in
    (c.drop_raise-key.ensures.stands _ _ s, rw (sym c.number-owner.ensures) (c.note.ensures.noted _ n))

pub give-requires-in-Open-clause-stands : goal.give-requires-in-Open-clause-stands
give-requires-in-Open-clause-stands g c =
    let s : StandsFor c.in-Ok.held.pass.seen c.deref_mut-inner.result.now.stripe = rw c.deref_mut-inner.ensures.value c.in-Ok.ensures.stands.0 in
    let n : g.J.Journal.has_noted c.deref_mut-inner.result.now.journal c.in-Ok.held.pass.seen = rw c.deref_mut-inner.ensures.value c.in-Ok.ensures.stands.1 in
    (c.open_page-key.ensures.stands _ _ s, rw (sym c.number-owner.ensures) (c.note-in-Open.ensures.noted _ n))

pub give-requires-in-Read-clause-stands : goal.give-requires-in-Read-clause-stands
give-requires-in-Read-clause-stands g c =
    let s : StandsFor c.in-Ok.held.pass.seen c.deref_mut-inner.result.now.stripe = rw c.deref_mut-inner.ensures.value c.in-Ok.ensures.stands.0 in
    let n : g.J.Journal.has_noted c.deref_mut-inner.result.now.journal c.in-Ok.held.pass.seen = rw c.deref_mut-inner.ensures.value c.in-Ok.ensures.stands.1 in
    (rw c.key.ensures (c.start_read-trip.ensures.stands _ _ s), rw (sym c.number-owner.ensures) (c.note-in-Read.ensures.noted _ n))

pub returns-in-Read-clause-open_read : goal.returns-in-Read-clause-open_read
returns-in-Read-clause-open_read g c =
    let h = c.in-Ok.held.pass.seen in
    let o = c.in-Ok.held.pass.number in
    let s : StandsFor h c.deref_mut-inner.result.now.stripe = rw c.deref_mut-inner.ensures.value c.in-Ok.ensures.stands.0 in
    let same : c.deref_mut-inner.result.now.stripe.setup ≡ (locked_setup c.args.lock.now) = rw c.deref_mut-inner.ensures.value (ap (λ f. f.setup) c.in-Ok.ensures.fixed) in
    open_now false c.deref_mut-inner.result.now.stripe.setup _ h _ o _ (entry.StartRead c.start_read-trip.result.start.key) (entry.StartRead c.key.result) c.start_read-trip.result.start (c.start_read-trip.ensures.open_read h o s) same (ap entry.StartRead (sym c.key.ensures)) (search rules) (search rules)

pub returns-in-Read-clause-lane : goal.returns-in-Read-clause-lane
returns-in-Read-clause-lane g c =
    let h = c.in-Ok.held.pass.seen in
    let s : StandsFor h c.deref_mut-inner.result.now.stripe = rw c.deref_mut-inner.ensures.value c.in-Ok.ensures.stands.0 in
    let same : c.deref_mut-inner.result.now.stripe.setup ≡ (locked_setup c.args.lock.now) = rw c.deref_mut-inner.ensures.value (ap (λ f. f.setup) c.in-Ok.ensures.fixed) in
    record { fresh = c.start_read-trip.ensures.lane; has = rw (sym same) c.start_read-trip.ensures.serves; some = rw (sym same) s.fits.some_bytes }
