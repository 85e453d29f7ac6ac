use Rattle.std.proofs.Common.{rules, ◌≡◌, ◌∷◌, [], Some, true, false, sym, ap, ◌∙◌, subst, refl, length}
use Rattle.page_base.specs.KeyOrder.{is_below}
use Rattle.page_base.specs.declared.keys.Key.{Key}
use Rattle.page_model.specs.declared.entry.Cause.TheVariants.{Flush}
use Rattle.page_model.specs.declared.entry.Entry.TheVariants as entry
use Rattle.page_model.specs.Core.{next_dirty}
use Rattle.page_model.specs.Core as core
use Rattle.page_model.specs.Readers.{IsNextToFlush}
use Rattle.page_model.specs.Setups.{Setup, has_page}
use Rattle.page_model.specs.Stands.{StandsFor}
use Rattle.locked_stripe.specs.Terms.{locked_setup}
use Rattle.locked_stripe.proofs.Open.{open_now, taken_now}
use Rattle.locked_stripe.proofs.Walking.{between_covered, is_away, rest_covered}
use Rattle.locked_stripe.proofs.flushes.begin_flush.Goals as goal

pub is_home-requires : goal.is_home-requires
is_home-requires g c =
    let h = c.in-Ok.held.pass.seen in
    let s : StandsFor h c.deref_mut-inner.result.now.stripe = rw c.deref_mut-inner.ensures.value c.in-Ok.ensures.stands.0 in
    let next : IsNextToFlush c.deref_mut-inner.result.now.stripe c.args.after c.in-Some.key = c.flush_knows.ensures.next h c.deref_mut-inner.result.now.stripe c.args.after c.in-Some.key s (sym c.next_dirty.ensures.exact ∙ c.in-Some.is) in
    record { region = c.pages_are_of_stripe.ensures.region c.deref_mut-inner.result.now.stripe.setup c.in-Some.key next.page }

pub start_write-trip-requires-clause-page : goal.start_write-trip-requires-clause-page
start_write-trip-requires-clause-page g c =
    let h = c.in-Ok.held.pass.seen in
    let s : StandsFor h c.deref_mut-inner.result.now.stripe = rw c.deref_mut-inner.ensures.value c.in-Ok.ensures.stands.0 in
    (c.flush_knows.ensures.next h c.deref_mut-inner.result.now.stripe c.args.after c.in-Some.key s (sym c.next_dirty.ensures.exact ∙ c.in-Some.is)).page

pub start_write-trip-requires-clause-can : goal.start_write-trip-requires-clause-can
start_write-trip-requires-clause-can g c =
    let h = c.in-Ok.held.pass.seen in
    let s : StandsFor h c.deref_mut-inner.result.now.stripe = rw c.deref_mut-inner.ensures.value c.in-Ok.ensures.stands.0 in
    let next : IsNextToFlush c.deref_mut-inner.result.now.stripe c.args.after c.in-Some.key = c.flush_knows.ensures.next h c.deref_mut-inner.result.now.stripe c.args.after c.in-Some.key s (sym c.next_dirty.ensures.exact ∙ c.in-Some.is) in
    record { dirty = next.dirty; home = sym c.is_home.ensures.exact ∙ c.if-not-is_home.false; fits = tt }

pub give-requires-clause-stands : goal.give-requires-clause-stands
give-requires-clause-stands g c =
    let h = c.in-Ok.held.pass.seen in
    let s : StandsFor h c.deref_mut-inner.result.now.stripe = rw c.deref_mut-inner.ensures.value c.in-Ok.ensures.stands.0 in
    let n : g.J.Journal.has_noted c.deref_mut-inner.result.now.journal h = rw c.deref_mut-inner.ensures.value c.in-Ok.ensures.stands.1 in
    (c.start_write-trip.ensures.stands h _ s, rw (sym c.number-owner.ensures) (c.note.ensures.noted h n))

pub returns-in_default-next_dirty-clause-rests : goal.returns-in_default-next_dirty-clause-rests
returns-in_default-next_dirty-clause-rests g c =
    let h = c.in-Ok.held.pass.seen in
    let s : StandsFor h c.deref_mut-inner.result.now.stripe = rw c.deref_mut-inner.ensures.value c.in-Ok.ensures.stands.0 in
    (h, search rules, rest_covered c.flush_laws.ensures c.flush_knows.ensures h c.deref_mut-inner.result.now.stripe c.args.after s (sym c.next_dirty.ensures.exact ∙ c.in_default-next_dirty.is))

pub returns-then-not-is_home-clause-rests : goal.returns-then-not-is_home-clause-rests
returns-then-not-is_home-clause-rests g c =
    let h = c.in-Ok.held.pass.seen in
    let s : StandsFor h c.deref_mut-inner.result.now.stripe = rw c.deref_mut-inner.ensures.value c.in-Ok.ensures.stands.0 in
    let next : IsNextToFlush c.deref_mut-inner.result.now.stripe c.args.after c.in-Some.key = c.flush_knows.ensures.next h c.deref_mut-inner.result.now.stripe c.args.after c.in-Some.key s (sym c.next_dirty.ensures.exact ∙ c.in-Some.is) in
    let region = c.pages_are_of_stripe.ensures.region c.deref_mut-inner.result.now.stripe.setup c.in-Some.key next.page in
    let away : core.is_home c.deref_mut-inner.result.now.stripe c.in-Some.key.region ≡ false = sym c.is_home.ensures.exact ∙ c.if-not-is_home.true in
    (h, search rules, λ home. is_away h c.deref_mut-inner.result.now.stripe c.in-Some.key.region (c.readers_agree.ensures.regions h c.deref_mut-inner.result.now.stripe c.in-Some.key.region s region).home away home)

pub returns-clause-begun : goal.returns-clause-begun
returns-clause-begun g c =
    let h = c.in-Ok.held.pass.seen in
    let s : StandsFor h c.deref_mut-inner.result.now.stripe = rw c.deref_mut-inner.ensures.value c.in-Ok.ensures.stands.0 in
    let same : c.deref_mut-inner.result.now.stripe.setup ≡ (locked_setup c.args.lock.now) = rw c.deref_mut-inner.ensures.value (ap (λ f. f.setup) c.in-Ok.ensures.fixed) in
    let next : IsNextToFlush c.deref_mut-inner.result.now.stripe c.args.after c.in-Some.key = c.flush_knows.ensures.next h c.deref_mut-inner.result.now.stripe c.args.after c.in-Some.key s (sym c.next_dirty.ensures.exact ∙ c.in-Some.is) in
    let key : c.start_write-trip.result.start.key ≡ c.in-Some.key = c.start_write-trip.ensures.key in (
      h,
      search rules,
      record {
        at = c.start_write-trip.ensures.at ∙ s.events;
        page = rw (sym same, key) next.page;
        between = λ k past below. between_covered c.flush_laws.ensures h c.deref_mut-inner.result.now.stripe c.args.after c.in-Some.key s next k past (subst (λ (q : Key). is_below k q ≡ true) key below);
      },
    )

pub returns-clause-open_write : goal.returns-clause-open_write
returns-clause-open_write g c =
    let h = c.in-Ok.held.pass.seen in
    let o = c.in-Ok.held.pass.number in
    let s : StandsFor h c.deref_mut-inner.result.now.stripe = rw c.deref_mut-inner.ensures.value c.in-Ok.ensures.stands.0 in
    let same : c.deref_mut-inner.result.now.stripe.setup ≡ (locked_setup c.args.lock.now) = rw c.deref_mut-inner.ensures.value (ap (λ f. f.setup) c.in-Ok.ensures.fixed) in
    open_now true c.deref_mut-inner.result.now.stripe.setup _ h _ o _ (entry.StartWrite c.in-Some.key Flush) (entry.StartWrite c.in-Some.key Flush) c.start_write-trip.result.start (c.start_write-trip.ensures.open_write h o s) same refl (search rules) (search rules)

pub returns-clause-taken : goal.returns-clause-taken
returns-clause-taken g c =
    let h = c.in-Ok.held.pass.seen in
    let o = c.in-Ok.held.pass.number in
    let s : StandsFor h c.deref_mut-inner.result.now.stripe = rw c.deref_mut-inner.ensures.value c.in-Ok.ensures.stands.0 in
    let same : c.deref_mut-inner.result.now.stripe.setup ≡ (locked_setup c.args.lock.now) = rw c.deref_mut-inner.ensures.value (ap (λ f. f.setup) c.in-Ok.ensures.fixed) in
    taken_now c.deref_mut-inner.result.now.stripe.setup _ h _ o (entry.StartWrite c.in-Some.key Flush) c.in-Some.key c.start_write-trip.result.start.key c.start_write-trip.new.scratch (c.start_write-trip.ensures.taken h o s) same (sym c.start_write-trip.ensures.key) (search rules)

pub returns-clause-lane : goal.returns-clause-lane
returns-clause-lane g c =
    let h = c.in-Ok.held.pass.seen in
    let s : StandsFor h c.deref_mut-inner.result.now.stripe = rw c.deref_mut-inner.ensures.value c.in-Ok.ensures.stands.0 in
    let same : c.deref_mut-inner.result.now.stripe.setup ≡ (locked_setup c.args.lock.now) = rw c.deref_mut-inner.ensures.value (ap (λ f. f.setup) c.in-Ok.ensures.fixed) in
    record { fresh = c.start_write-trip.ensures.lane; has = rw (sym same, c.start_write-trip.ensures.key) (c.start_write-trip.ensures.serves h s); some = rw (sym same) s.fits.some_bytes }
