use Rattle.std.proofs.Common.{arith, ◌≤◌, ◌≡◌, false, ap, subst, refl, length, ◌+◌}
use Rattle.soft_mmu.specs.declared.entry.Wants.TheVariants as wants
use Rattle.soft_mmu.specs.Entries.{table_entry}
use Rattle.page_buffer.specs.Buffers.{frame_of}
use Rattle.page_buffer.specs.Frames.{bytes_of}
use Rattle.page_model.specs.Core.{Core, page_at, is_closing}
use Rattle.stripe_core.proofs.Looks.{at_entry, page_is, hit_open, missing_absent, protected_held, holds_page, is_held, save_hit, save_miss, save_protected}
use Rattle.stripe_core.specs.InsideTied.{CountsWithin}
use Rattle.page_base.specs.ListSeen.{spliced}
use Rattle.stripe_core.proofs.Ties.{page_rewritten, page_written, still_tied, bytes_same}
use Rattle.stripe_core.proofs.Sizes.{resized, framed}
use Rattle.stripe_core.proofs.stripe.Stripe.save_step.Goals as goal

pub bytes_mut-page-requires : goal.bytes_mut-page-requires
bytes_mut-page-requires g c =
    let s = c.self.inside in
    let h = hit_open (table_entry s.table c.args.key) c.in-Hit.frame c.in-Hit.ensures.exact in
    record { resident = is_held _ c.args.key (holds_page s.table s.buffer _ c.args.key _ h.0 c.in-Hit.frame c.self.invariant.0 h.1) }

pub returns-in-Hit-clause-answer : goal.returns-in-Hit-clause-answer
returns-in-Hit-clause-answer g c =
    let s = c.self.inside in
    let h = hit_open (table_entry s.table c.args.key) c.in-Hit.frame c.in-Hit.ensures.exact in
    let P : Core → Type 0 = λ v. page_at v c.args.key ≡ at_entry s.buffer c.args.key (table_entry s.table c.args.key) in
    let at = subst P c.self.view_is (page_is s.table s.buffer _ c.args.key c.self.invariant.0) in
    let calm : is_closing c.args.self.now c.args.key.region ≡ false = cc (c.is_closing.ensures.exact, c.if-is_closing.false) in
    save_hit c.args.self.now s.buffer c.args.key (table_entry s.table c.args.key) h.0 c.in-Hit.frame calm at h.1

pub returns-in-Missing-clause-answer : goal.returns-in-Missing-clause-answer
returns-in-Missing-clause-answer g c =
    let s = c.self.inside in
    let P : Core → Type 0 = λ v. page_at v c.args.key ≡ at_entry s.buffer c.args.key (table_entry s.table c.args.key) in
    let at = subst P c.self.view_is (page_is s.table s.buffer _ c.args.key c.self.invariant.0) in
    let calm : is_closing c.args.self.now c.args.key.region ≡ false = cc (c.is_closing.ensures.exact, c.if-is_closing.false) in
    save_miss c.args.self.now s.buffer c.args.key (table_entry s.table c.args.key) calm at (missing_absent (table_entry s.table c.args.key) wants.Write c.in-Missing.ensures.exact)

pub returns-in-Protected-clause-answer : goal.returns-in-Protected-clause-answer
returns-in-Protected-clause-answer g c =
    let s = c.self.inside in
    let h = protected_held (table_entry s.table c.args.key) c.in-Protected.ensures.exact in
    let P : Core → Type 0 = λ v. page_at v c.args.key ≡ at_entry s.buffer c.args.key (table_entry s.table c.args.key) in
    let at = subst P c.self.view_is (page_is s.table s.buffer _ c.args.key c.self.invariant.0) in
    let calm : is_closing c.args.self.now c.args.key.region ≡ false = cc (c.is_closing.ensures.exact, c.if-is_closing.false) in
    save_protected c.args.self.now s.buffer c.args.key (table_entry s.table c.args.key) h.0 h.1 calm at h.2

pub returns-in-Hit-clause-step : goal.returns-in-Hit-clause-step
returns-in-Hit-clause-step g c =
    λ _.
    let s = c.self.inside in
    let h = hit_open (table_entry s.table c.args.key) c.in-Hit.frame c.in-Hit.ensures.exact in
    let held = holds_page s.table s.buffer _ c.args.key false h.0 c.in-Hit.frame c.self.invariant.0 h.1 in
    let ps = ap (λ (v : Core). v.setup.page_size) c.self.view_is in
    let fits : c.args.place + length c.args.bytes.now ≤ length c.bytes_mut-page.result.now = omega (arith, ps, c.bytes_mut-page.ensures.size, c.self.invariant.1.page_size, c.requires.in_page.inside) in
    let new = page_rewritten s.buffer c.in-Hit.frame c.args.key c.args.place c.args.bytes.now c.bytes_mut-page.result.now c.copy_from_slice.new.self held fits c.bytes_mut-page.ensures.bytes c.copy_from_slice.ensures.after in
    let pages = page_written s.table s.buffer _ c.args.key false h.0 c.in-Hit.frame c.args.place c.args.bytes.now c.self.invariant.0 h.1 in
    rw (new, ← c.self.view_is) (cc (pages))

pub invariant_of-self : goal.invariant_of-self
invariant_of-self g c =
    let s = c.self.inside in
    let h = hit_open (table_entry s.table c.args.key) c.in-Hit.frame c.in-Hit.ensures.exact in
    let held = holds_page s.table s.buffer _ c.args.key false h.0 c.in-Hit.frame c.self.invariant.0 h.1 in
    let ps = ap (λ (v : Core). v.setup.page_size) c.self.view_is in
    let fits : c.args.place + length c.args.bytes.now ≤ length c.bytes_mut-page.result.now = omega (arith, ps, c.bytes_mut-page.ensures.size, c.self.invariant.1.page_size, c.requires.in_page.inside) in
    let new = page_rewritten s.buffer c.in-Hit.frame c.args.key c.args.place c.args.bytes.now c.bytes_mut-page.result.now c.copy_from_slice.new.self held fits c.bytes_mut-page.ensures.bytes c.copy_from_slice.ensures.after in
    let tied = still_tied s.table s.table s.buffer _ _ (bytes_same s.table s.buffer c.args.key c.in-Hit.frame (spliced (bytes_of (frame_of s.buffer c.in-Hit.frame)) c.args.place c.args.bytes.now) held) c.self.invariant.0 in
    let within : CountsWithin s.counts (s.events + 1) = omega (arith, c.self.invariant.4) in
    rw new (tied, resized _ refl refl (framed s.buffer c.in-Hit.frame _) c.self.invariant.1, c.self.invariant.2, c.self.invariant.3, within)
