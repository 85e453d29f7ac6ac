use Rattle.std.proofs.Common.{rules, ◌≡◌, ◌∷◌, [], true, false, sym, ap, ◌∙◌, subst, refl}
use Rattle.page_model.specs.Stands.{StandsFor}
use Rattle.locked_stripe.specs.Terms.{locked_setup}
use Rattle.locked_stripe.proofs.Open.{still_open}
use Rattle.locked_stripe.proofs.reads.fill.Goals as goal

pub give-requires-clause-stands : goal.give-requires-clause-stands
give-requires-clause-stands g c =
    let h = c.in-Ok.held.pass.seen in
    let o = c.in-Ok.held.pass.number in
    let s : StandsFor h c.deref_mut-inner.result.now.stripe = rw c.deref_mut-inner.ensures.value c.in-Ok.ensures.stands.0 in
    let same : c.deref_mut-inner.result.now.stripe.setup ≡ (locked_setup c.args.lock.now) = rw c.deref_mut-inner.ensures.value (ap (λ f. f.setup) c.in-Ok.ensures.fixed) in
    let open_ = still_open c.trips_stay_open.ensures false (locked_setup c.args.lock.now) c.args.pass.now.seen h o c.args.pass.now.number c.deref_mut-inner.result.now.stripe c.args.trip.start c.in-Ok.ensures.others s same c.in-Ok.ensures.number c.requires.open_read in
    let n : g.J.Journal.has_noted c.deref_mut-inner.result.now.journal h = rw c.deref_mut-inner.ensures.value c.in-Ok.ensures.stands.1 in
    (rw c.key.ensures (c.filled-why.ensures.stands h o s open_.stays), rw (sym c.number-owner.ensures) (c.note.ensures.noted h n))
