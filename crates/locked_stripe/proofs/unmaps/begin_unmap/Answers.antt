use Rattle.std.proofs.Common.{rules, ◌≡◌, ◌<◌, ◌==◌, ◌∷◌, [], Some, None, true, false, sym, ap, ◌∙◌, subst, refl, length, arith}
use Rattle.std.proofs.lemmas.Bool.{and_from, eq-eqb}
use Rattle.page_model.specs.declared.entry.Cause.TheVariants.{Unmap}
use Rattle.page_model.specs.declared.entry.Entry.TheVariants as entry
use Rattle.page_model.specs.Closings.{is_unmapped}
use Rattle.page_model.specs.Core as core
use Rattle.page_model.specs.Readers.{IsHeldOf, RegionReads}
use Rattle.page_model.specs.Setups.{Setup, has_page, regions}
use Rattle.page_model.specs.Stands.{StandsFor}
use Rattle.locked_stripe.specs.Terms.{locked_setup}
use Rattle.locked_stripe.proofs.Open.{open_now, taken_now}
use Rattle.locked_stripe.proofs.Unmapping.{home_not_writing, is_now_quiet}
use Rattle.locked_stripe.proofs.Walking.{is_away}
use Rattle.locked_stripe.proofs.unmaps.begin_unmap.Goals as goal

pub returns-then-is_unmapped-clause-steps : goal.returns-then-is_unmapped-clause-steps
returns-then-is_unmapped-clause-steps g c =
    let h = c.in-Ok.held.pass.seen in
    let s : StandsFor h c.deref_mut-inner.result.now.stripe = rw c.deref_mut-inner.ensures.value c.in-Ok.ensures.stands.0 in
    let same : c.deref_mut-inner.result.now.stripe.setup ≡ (locked_setup c.args.lock.now) = rw c.deref_mut-inner.ensures.value (ap (λ f. f.setup) c.in-Ok.ensures.fixed) in
    let below : c.args.region < regions c.deref_mut-inner.result.now.stripe.setup = rw same c.requires.region in
    let reads : RegionReads h c.deref_mut-inner.result.now.stripe c.args.region = c.readers_agree.ensures.regions h c.deref_mut-inner.result.now.stripe c.args.region s below in
    (h, search rules, sym reads.unmapped ∙ (sym c.is_unmapped.ensures.exact ∙ c.if-is_unmapped.true))

pub give-requires-clause-stands : goal.give-requires-clause-stands
give-requires-clause-stands g c =
    let h = c.in-Ok.held.pass.seen in
    let s : StandsFor h c.deref_mut-inner.result.now.stripe = rw c.deref_mut-inner.ensures.value c.in-Ok.ensures.stands.0 in
    let n : g.J.Journal.has_noted c.deref_mut-inner.result.now.journal h = rw c.deref_mut-inner.ensures.value c.in-Ok.ensures.stands.1 in
    (c.closing.ensures.stands h _ s, rw (sym c.number-owner.ensures) (c.note.ensures.noted h n))

pub returns-then-not-is_closing-clause-steps : goal.returns-then-not-is_closing-clause-steps
returns-then-not-is_closing-clause-steps g c =
    let h = c.in-Ok.held.pass.seen in
    let s : StandsFor h c.deref_mut-inner.result.now.stripe = rw c.deref_mut-inner.ensures.value c.in-Ok.ensures.stands.0 in
    let same : c.deref_mut-inner.result.now.stripe.setup ≡ (locked_setup c.args.lock.now) = rw c.deref_mut-inner.ensures.value (ap (λ f. f.setup) c.in-Ok.ensures.fixed) in
    let below : c.args.region < regions c.deref_mut-inner.result.now.stripe.setup = rw same c.requires.region in
    let reads : RegionReads h c.deref_mut-inner.result.now.stripe c.args.region = c.readers_agree.ensures.regions h c.deref_mut-inner.result.now.stripe c.args.region s below in
    let mapped : is_unmapped h c.args.region ≡ false = sym reads.unmapped ∙ (sym c.is_unmapped.ensures.exact ∙ c.if-is_unmapped.false) in
    record { found = h; own = entry.Closing c.args.region ∷ []; held = search rules; mapped = mapped; step = eq-eqb c.args.region c.args.region refl; some = λ a. omega arith }

pub give-requires-in-Drop-clause-stands : goal.give-requires-in-Drop-clause-stands
give-requires-in-Drop-clause-stands g c =
    let h = c.in-Ok.held.pass.seen in
    let s : StandsFor h c.deref_mut-inner.result.now.stripe = rw c.deref_mut-inner.ensures.value c.in-Ok.ensures.stands.0 in
    let n : g.J.Journal.has_noted c.deref_mut-inner.result.now.journal h = rw c.deref_mut-inner.ensures.value c.in-Ok.ensures.stands.1 in
    (c.drop_raise-key.ensures.stands h _ s, rw (sym c.number-owner.ensures) (c.note-in-Drop.ensures.noted h n))

pub returns-in-Drop-clause-steps : goal.returns-in-Drop-clause-steps
returns-in-Drop-clause-steps g c =
    let h = c.in-Ok.held.pass.seen in
    let s : StandsFor h c.deref_mut-inner.result.now.stripe = rw c.deref_mut-inner.ensures.value c.in-Ok.ensures.stands.0 in
    let same : c.deref_mut-inner.result.now.stripe.setup ≡ (locked_setup c.args.lock.now) = rw c.deref_mut-inner.ensures.value (ap (λ f. f.setup) c.in-Ok.ensures.fixed) in
    let below : c.args.region < regions c.deref_mut-inner.result.now.stripe.setup = rw same c.requires.region in
    let reads : RegionReads h c.deref_mut-inner.result.now.stripe c.args.region = c.readers_agree.ensures.regions h c.deref_mut-inner.result.now.stripe c.args.region s below in
    let mapped : is_unmapped h c.args.region ≡ false = sym reads.unmapped ∙ (sym c.is_unmapped.ensures.exact ∙ c.if-is_unmapped.false) in
    record { found = h; own = entry.Dropped c.drop_raise-key.result ∷ []; held = search rules; mapped = mapped; step = refl; some = λ a. omega arith }

pub returns-then-not-is_home : goal.returns-then-not-is_home
returns-then-not-is_home g c =
    let h = c.in-Ok.held.pass.seen in
    let s : StandsFor h c.deref_mut-inner.result.now.stripe = rw c.deref_mut-inner.ensures.value c.in-Ok.ensures.stands.0 in
    let same : c.deref_mut-inner.result.now.stripe.setup ≡ (locked_setup c.args.lock.now) = rw c.deref_mut-inner.ensures.value (ap (λ f. f.setup) c.in-Ok.ensures.fixed) in
    let below : c.args.region < regions c.deref_mut-inner.result.now.stripe.setup = rw same c.requires.region in
    let reads : RegionReads h c.deref_mut-inner.result.now.stripe c.args.region = c.readers_agree.ensures.regions h c.deref_mut-inner.result.now.stripe c.args.region s below in
    let mapped : is_unmapped h c.args.region ≡ false = sym reads.unmapped ∙ (sym c.is_unmapped.ensures.exact ∙ c.if-is_unmapped.false) in
    record {
      steps = record { found = h; own = []; held = search rules; mapped = mapped; step = refl; some = λ a. absurd (is_away h c.deref_mut-inner.result.now.stripe c.args.region reads.home (sym c.is_home.ensures.exact ∙ c.if-not-is_home.true) a) };
      begun = tt;
      open_write = tt;
      taken = tt;
      lane = tt;
    }

pub unmapped-requires : goal.unmapped-requires
unmapped-requires g c =
    let h = c.in-Ok.held.pass.seen in
    let s : StandsFor h c.deref_mut-inner.result.now.stripe = rw c.deref_mut-inner.ensures.value c.in-Ok.ensures.stands.0 in
    let same : c.deref_mut-inner.result.now.stripe.setup ≡ (locked_setup c.args.lock.now) = rw c.deref_mut-inner.ensures.value (ap (λ f. f.setup) c.in-Ok.ensures.fixed) in
    let below : c.args.region < regions c.deref_mut-inner.result.now.stripe.setup = rw same c.requires.region in
    let reads : RegionReads h c.deref_mut-inner.result.now.stripe c.args.region = c.readers_agree.ensures.regions h c.deref_mut-inner.result.now.stripe c.args.region s below in
    let closing = sym c.is_closing.ensures.exact ∙ c.if-not-is_closing.false in
    let none : core.oldest_of c.deref_mut-inner.result.now.stripe c.args.region ≡ None = sym c.oldest_of.ensures.exact ∙ c.in_default-oldest_of.is in
    record {
      few = search rules;
      can = record {
        region = below;
        closing = closing;
        first = sym c.is_unmapped.ensures.exact ∙ c.if-is_unmapped.false;
        quiet = is_now_quiet c.closing_goes_ahead.ensures h c.deref_mut-inner.result.now.stripe c.args.region reads (c.readers_agree.ensures.stripe h c.deref_mut-inner.result.now.stripe s) closing (sym c.is_home.ensures.exact ∙ c.if-not-is_home.false) none (λ k e. c.in_default-next.not-Drop k (c.next.ensures.exact ∙ e));
      };
    }

pub give-requires-in_default-oldest_of : goal.give-requires-in_default-oldest_of
give-requires-in_default-oldest_of g c =
    let h = c.in-Ok.held.pass.seen in
    let s : StandsFor h c.deref_mut-inner.result.now.stripe = rw c.deref_mut-inner.ensures.value c.in-Ok.ensures.stands.0 in
    let n : g.J.Journal.has_noted c.deref_mut-inner.result.now.journal h = rw c.deref_mut-inner.ensures.value c.in-Ok.ensures.stands.1 in
    record { stands = (c.unmapped.ensures.stands h _ s, rw (sym c.number-owner.ensures) (c.note-in_default-oldest_of.ensures.noted h n)); fixed = search rules }

pub returns-in_default-oldest_of : goal.returns-in_default-oldest_of
returns-in_default-oldest_of g c =
    let h = c.in-Ok.held.pass.seen in
    let s : StandsFor h c.deref_mut-inner.result.now.stripe = rw c.deref_mut-inner.ensures.value c.in-Ok.ensures.stands.0 in
    let same : c.deref_mut-inner.result.now.stripe.setup ≡ (locked_setup c.args.lock.now) = rw c.deref_mut-inner.ensures.value (ap (λ f. f.setup) c.in-Ok.ensures.fixed) in
    let below : c.args.region < regions c.deref_mut-inner.result.now.stripe.setup = rw same c.requires.region in
    let reads : RegionReads h c.deref_mut-inner.result.now.stripe c.args.region = c.readers_agree.ensures.regions h c.deref_mut-inner.result.now.stripe c.args.region s below in
    let mapped : is_unmapped h c.args.region ≡ false = sym reads.unmapped ∙ (sym c.is_unmapped.ensures.exact ∙ c.if-is_unmapped.false) in
    record { steps = (h, search rules, mapped); begun = tt; open_write = tt; taken = tt; lane = tt }

pub start_write-trip-requires : goal.start_write-trip-requires
start_write-trip-requires g c =
    let h = c.in-Ok.held.pass.seen in
    let s : StandsFor h c.deref_mut-inner.result.now.stripe = rw c.deref_mut-inner.ensures.value c.in-Ok.ensures.stands.0 in
    let at : core.oldest_of c.deref_mut-inner.result.now.stripe c.args.region ≡ Some c.in-Some.pick = sym c.oldest_of.ensures.exact ∙ c.in-Some.is in
    let held : IsHeldOf c.deref_mut-inner.result.now.stripe c.args.region c.in-Some.pick = c.picks_know.ensures.oldest h c.deref_mut-inner.result.now.stripe c.args.region c.in-Some.pick s at in
    let home : core.is_home c.deref_mut-inner.result.now.stripe c.in-Some.pick.key.region ≡ true = ap (core.is_home c.deref_mut-inner.result.now.stripe) held.region ∙ (sym c.is_home.ensures.exact ∙ c.if-not-is_home.false) in
    let closing : core.is_closing c.deref_mut-inner.result.now.stripe c.in-Some.pick.key.region ≡ true = ap (core.is_closing c.deref_mut-inner.result.now.stripe) held.region ∙ (sym c.is_closing.ensures.exact ∙ c.if-not-is_closing.false) in
    record {
      few = search rules;
      page = held.page;
      can = record { dirty = held.dirty ∙ c.if-pick.true; home = home; fits = closing };
      size = search rules;
    }

pub give-requires-then-pick : goal.give-requires-then-pick
give-requires-then-pick g c =
    let h = c.in-Ok.held.pass.seen in
    let s : StandsFor h c.deref_mut-inner.result.now.stripe = rw c.deref_mut-inner.ensures.value c.in-Ok.ensures.stands.0 in
    let n : g.J.Journal.has_noted c.deref_mut-inner.result.now.journal h = rw c.deref_mut-inner.ensures.value c.in-Ok.ensures.stands.1 in
    record { stands = (c.start_write-trip.ensures.stands h _ s, rw (sym c.number-owner.ensures) (c.note-then-pick.ensures.noted h n)); fixed = search rules }

pub evict-requires : goal.evict-requires
evict-requires g c =
    let h = c.in-Ok.held.pass.seen in
    let s : StandsFor h c.deref_mut-inner.result.now.stripe = rw c.deref_mut-inner.ensures.value c.in-Ok.ensures.stands.0 in
    let same : c.deref_mut-inner.result.now.stripe.setup ≡ (locked_setup c.args.lock.now) = rw c.deref_mut-inner.ensures.value (ap (λ f. f.setup) c.in-Ok.ensures.fixed) in
    let at : core.oldest_of c.deref_mut-inner.result.now.stripe c.args.region ≡ Some c.in-Some.pick = sym c.oldest_of.ensures.exact ∙ c.in-Some.is in
    let held : IsHeldOf c.deref_mut-inner.result.now.stripe c.args.region c.in-Some.pick = c.picks_know.ensures.oldest h c.deref_mut-inner.result.now.stripe c.args.region c.in-Some.pick s at in
    let home : core.is_home c.deref_mut-inner.result.now.stripe c.in-Some.pick.key.region ≡ true = ap (core.is_home c.deref_mut-inner.result.now.stripe) held.region ∙ (sym c.is_home.ensures.exact ∙ c.if-not-is_home.false) in
    let closing : core.is_closing c.deref_mut-inner.result.now.stripe c.in-Some.pick.key.region ≡ true = ap (core.is_closing c.deref_mut-inner.result.now.stripe) held.region ∙ (sym c.is_closing.ensures.exact ∙ c.if-not-is_closing.false) in
    let there : c.in-Some.pick.key.region < regions c.deref_mut-inner.result.now.stripe.setup = rw (same, held.region) c.requires.region in
    record {
      few = search rules;
      page = held.page;
      can = record {
        present = held.present;
        clean = held.dirty ∙ c.if-pick.false;
        not_writing = home_not_writing h c.deref_mut-inner.result.now.stripe c.in-Some.pick.key (c.readers_agree.ensures.pages h c.deref_mut-inner.result.now.stripe c.in-Some.pick.key s held.page) (c.readers_agree.ensures.regions h c.deref_mut-inner.result.now.stripe c.in-Some.pick.key.region s there) home;
        fits = closing;
      };
    }

pub give-requires-else-pick : goal.give-requires-else-pick
give-requires-else-pick g c =
    let h = c.in-Ok.held.pass.seen in
    let s : StandsFor h c.deref_mut-inner.result.now.stripe = rw c.deref_mut-inner.ensures.value c.in-Ok.ensures.stands.0 in
    let n : g.J.Journal.has_noted c.deref_mut-inner.result.now.journal h = rw c.deref_mut-inner.ensures.value c.in-Ok.ensures.stands.1 in
    record { stands = (c.evict.ensures.stands h _ s, rw (sym c.number-owner.ensures) (c.note-else-pick.ensures.noted h n)); fixed = search rules }

pub returns-then-pick : goal.returns-then-pick
returns-then-pick g c =
    let h = c.in-Ok.held.pass.seen in
    let s : StandsFor h c.deref_mut-inner.result.now.stripe = rw c.deref_mut-inner.ensures.value c.in-Ok.ensures.stands.0 in
    let same : c.deref_mut-inner.result.now.stripe.setup ≡ (locked_setup c.args.lock.now) = rw c.deref_mut-inner.ensures.value (ap (λ f. f.setup) c.in-Ok.ensures.fixed) in
    let below : c.args.region < regions c.deref_mut-inner.result.now.stripe.setup = rw same c.requires.region in
    let reads : RegionReads h c.deref_mut-inner.result.now.stripe c.args.region = c.readers_agree.ensures.regions h c.deref_mut-inner.result.now.stripe c.args.region s below in
    let mapped : is_unmapped h c.args.region ≡ false = sym reads.unmapped ∙ (sym c.is_unmapped.ensures.exact ∙ c.if-is_unmapped.false) in
    let at : core.oldest_of c.deref_mut-inner.result.now.stripe c.args.region ≡ Some c.in-Some.pick = sym c.oldest_of.ensures.exact ∙ c.in-Some.is in
    let held : IsHeldOf c.deref_mut-inner.result.now.stripe c.args.region c.in-Some.pick = c.picks_know.ensures.oldest h c.deref_mut-inner.result.now.stripe c.args.region c.in-Some.pick s at in
    let o = c.in-Ok.held.pass.number in
    let key : c.start_write-trip.result.start.key ≡ c.in-Some.pick.key = c.start_write-trip.ensures.key in
    record {
      steps = tt;
      begun = record { found = h; held = search rules; mapped = mapped; page = rw (sym same, key) held.page; region = ap (λ k. k.region) key ∙ held.region };
      open_write = open_now true c.deref_mut-inner.result.now.stripe.setup _ h _ o _ (entry.StartWrite c.in-Some.pick.key Unmap) (entry.StartWrite c.in-Some.pick.key Unmap) c.start_write-trip.result.start (c.start_write-trip.ensures.open_write h o s) same refl (search rules) (search rules);
      taken = taken_now c.deref_mut-inner.result.now.stripe.setup _ h _ o (entry.StartWrite c.in-Some.pick.key Unmap) c.in-Some.pick.key c.start_write-trip.result.start.key c.start_write-trip.new.scratch (c.start_write-trip.ensures.taken h o s) same (sym key) (search rules);
      lane = record { fresh = c.start_write-trip.ensures.lane; has = rw (sym same, key) (c.start_write-trip.ensures.serves h s); some = rw (sym same) s.fits.some_bytes };
    }

pub returns-else-pick : goal.returns-else-pick
returns-else-pick g c =
    let h = c.in-Ok.held.pass.seen in
    let s : StandsFor h c.deref_mut-inner.result.now.stripe = rw c.deref_mut-inner.ensures.value c.in-Ok.ensures.stands.0 in
    let same : c.deref_mut-inner.result.now.stripe.setup ≡ (locked_setup c.args.lock.now) = rw c.deref_mut-inner.ensures.value (ap (λ f. f.setup) c.in-Ok.ensures.fixed) in
    let below : c.args.region < regions c.deref_mut-inner.result.now.stripe.setup = rw same c.requires.region in
    let reads : RegionReads h c.deref_mut-inner.result.now.stripe c.args.region = c.readers_agree.ensures.regions h c.deref_mut-inner.result.now.stripe c.args.region s below in
    let mapped : is_unmapped h c.args.region ≡ false = sym reads.unmapped ∙ (sym c.is_unmapped.ensures.exact ∙ c.if-is_unmapped.false) in
    let at : core.oldest_of c.deref_mut-inner.result.now.stripe c.args.region ≡ Some c.in-Some.pick = sym c.oldest_of.ensures.exact ∙ c.in-Some.is in
    let held : IsHeldOf c.deref_mut-inner.result.now.stripe c.args.region c.in-Some.pick = c.picks_know.ensures.oldest h c.deref_mut-inner.result.now.stripe c.args.region c.in-Some.pick s at in
    let kind : (c.in-Some.pick.key.region == c.args.region) ≡ true = eq-eqb c.in-Some.pick.key.region c.args.region held.region in
    record {
      steps = record { found = h; own = entry.Evicted c.in-Some.pick.key Unmap ∷ []; held = search rules; mapped = mapped; step = and_from (c.in-Some.pick.key.region == c.args.region) true kind refl; some = λ a. omega arith };
      begun = tt;
      open_write = tt;
      taken = tt;
      lane = tt;
    }
