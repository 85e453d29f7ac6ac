use Rattle.std.proofs.Common.{◌+◌, length, map, slice_set, subst, sym, ap, ◌∙◌, arith}
use Rattle.page_model.specs.declared.entry.Entry.TheVariants as entry
use Rattle.serial_pager.specs.Accesses.{is_for_store}
use Rattle.serial_pager.specs.InsideSound.{IsStripe}
use Rattle.serial_pager.specs.Rests.{ClosesSame}
use Rattle.serial_pager.proofs.Lists.{slice_set_length}
use Rattle.serial_pager.proofs.Pieces.{goes_in, may_access, piece_fails, piece_names, piece_ok, stripe_here}
use Rattle.serial_pager.proofs.Stripes.{map_set, writable_stripe}
use Rattle.serial_pager.proofs.Walks.{same_now, sound_now, within_now}
use Rattle.serial_pager.proofs.pager.SerialPager.store.Goals as goal

pub store-requires : goal.store-requires
store-requires g c =
    let ins = c.self.inside in
    let s = c.stripe_of-stripe.result in
    let x = c.index_mut.result.now in
    let here = stripe_here ins.config ins.stripes.items ins.spent c.args.self.now c.self.view_is s x c.stripe_of-stripe.ensures.below c.index_mut.ensures.value in
    let m = may_access ins.config ins.stripes.items ins.spent c.args.self.now c.self.view_is c.self.invariant.0 s x here c.args.key c.stripe_of-stripe.ensures.stripe c.requires.piece.page c.args.place (length c.args.bytes.now) c.requires.piece c.requires.few in
    record { rest = m.rest; few = m.few; scratch = c.as_mut_slice.ensures.len ∙ (c.self.invariant.2 ∙ sym m.size); not_closing = m.not_closing; in_page = m.in_page; writable = writable_stripe c.args.self.now s x.core (subst (λ p. IsStripe p s x.core) c.self.view_is (c.self.invariant.0.each s x here)) c.args.key.region c.requires.writable }

pub invariant_of-self : goal.invariant_of-self
invariant_of-self g c =
    let ins = c.self.inside in
    let s = c.stripe_of-stripe.result in
    let x = c.index_mut.result.now in
    let here = stripe_here ins.config ins.stripes.items ins.spent c.args.self.now c.self.view_is s x c.stripe_of-stripe.ensures.below c.index_mut.ensures.value in
    let y = c.store.new.self in
    let e = c.store.ensures in
    let many = slice_set_length ins.stripes.items s y in
    let goes = goes_in ins.config ins.stripes.items ins.spent c.args.self.now c.self.view_is c.self.invariant.0 s x here c.args.key c.stripe_of-stripe.ensures.stripe c.requires.piece.page y (record { setup = ap (λ f. f.setup) e.fixed; rest = e.rest; few = e.few; closes = e.closes }) in
    let v = c.self.invariant in
    (sound_now ins.config ins.stripes.items (slice_set ins.stripes.items s y) ins.spent 1 c.args.self.now c.self.view_is c.self.invariant.0 ClosesSame many goes (omega (arith, c.requires.few)), many ∙ v.1, v.2, v.3, v.4, omega (arith, many, v.5), omega (arith, many, v.6))

pub returns : goal.returns
returns g c =
    let ins = c.self.inside in
    let s = c.stripe_of-stripe.result in
    let x = c.index_mut.result.now in
    let here = stripe_here ins.config ins.stripes.items ins.spent c.args.self.now c.self.view_is s x c.stripe_of-stripe.ensures.below c.index_mut.ensures.value in
    let y = c.store.new.self in
    let e = c.store.ensures in
    let many = slice_set_length ins.stripes.items s y in
    let goes = goes_in ins.config ins.stripes.items ins.spent c.args.self.now c.self.view_is c.self.invariant.0 s x here c.args.key c.stripe_of-stripe.ensures.stripe c.requires.piece.page y (record { setup = ap (λ f. f.setup) e.fixed; rest = e.rest; few = e.few; closes = e.closes }) in
    record {
      same = same_now ins.config ins.stripes.items (slice_set ins.stripes.items s y) ins.spent 1 c.args.self.now c.self.view_is c.self.invariant.0 ClosesSame many goes (λ a b closes. closes);
      made = map_set (λ z. g.J.Journal.made_with z.journal) ins.stripes.items s x y here (ap (λ f. f.journal) e.fixed) ∙ ap (λ p. map (λ z. g.J.Journal.made_with z.journal) p.stripes) c.self.view_is;
      spent = ap (λ p. p.spent + 1) c.self.view_is;
      within = within_now ins.config ins.stripes.items (slice_set ins.stripes.items s y) ins.spent 1 c.args.self.now c.self.view_is c.self.invariant.0 ClosesSame many goes (omega (arith, c.requires.few)) c.service_knows.ensures.within;
      ok = piece_ok ins.config ins.stripes.items ins.spent c.args.self.now c.self.view_is c.self.invariant.0 s x here c.args.key c.stripe_of-stripe.ensures.stripe c.requires.piece.page y g.J.Journal.has_noted is_for_store c.store.result (entry.Save c.args.key c.args.place c.args.bytes.now) e.ok;
      err = piece_fails ins.config ins.stripes.items ins.spent c.args.self.now c.self.view_is c.self.invariant.0 s x here c.args.key c.stripe_of-stripe.ensures.stripe c.requires.piece.page y g.J.Journal.has_noted is_for_store c.store.result e.err;
      fault = piece_names ins.config ins.stripes.items ins.spent c.args.self.now c.self.view_is c.self.invariant.0 s x here c.args.key c.stripe_of-stripe.ensures.stripe c.requires.piece.page y g.J.Journal.has_noted is_for_store c.store.result e.err;
    }
