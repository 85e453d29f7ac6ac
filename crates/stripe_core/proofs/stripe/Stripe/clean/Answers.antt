use Rattle.std.proofs.Common.{Bool, Some, ap, false, not, refl, sym, true, ◌&&◌, ◌∙◌, ◌≡◌}
use Rattle.soft_mmu.specs.declared.entry.Bits.{Bits}
use Rattle.soft_mmu.specs.declared.entry.Wants.TheVariants as wants
use Rattle.soft_mmu.specs.Entries.{table_entry, cleaned}
use Rattle.page_buffer.specs.Buffers.{marked}
use Rattle.page_model.specs.Core.{Core, Resident}
use Rattle.page_model.specs.Setups.{has_page}
use Rattle.stripe_core.specs.InsideParts.{reads_of}
use Rattle.stripe_core.specs.InsideTied.{frame_in}
use Rattle.stripe_core.proofs.Looks.{hit_held, holds_page, is_held}
use Rattle.stripe_core.proofs.Rebits.{entry_marked, entry_changes, cleaned_frame, cleaned_dirt, cleaned_page, protected_is, open_stays}
use Rattle.stripe_core.proofs.Sizes.{resized, retabled}
use Rattle.stripe_core.proofs.Ties.{still_tied}
use Rattle.stripe_core.proofs.Writing.{found_there}
use Rattle.stripe_core.proofs.Lost.{still_within, cleaned_guards}
use Rattle.stripe_core.proofs.stripe.Stripe.clean.Goals as goal

shut_bit : (b : Bool) → not b ≡ false → b ≡ true
shut_bit true e = refl
shut_bit false e = absurd cc

pub unreachable-requires : goal.unreachable-requires
unreachable-requires g c =
    let s = c.self.inside in
    let guarded = protected_is (table_entry s.table c.args.key) (sym (ap (λ (x : Bits). x.protected) c.bits.ensures.exact) ∙ shut_bit c.bits.result.protected c.if-not-bits.false) in
    let hit = found_there (table_entry s.table c.args.key) guarded.0 in
    c.in_default.not-Hit hit.0 (c.translate.ensures.exact ∙ hit.1)

pub mark_clean-requires-2 : goal.mark_clean-requires-2
mark_clean-requires-2 g c =
    let s = c.self.inside in
    let h = hit_held (table_entry s.table c.args.key) wants.Read c.in-Hit.frame c.in-Hit.ensures.exact in
    record { resident = is_held _ c.args.key (holds_page s.table s.buffer _ c.args.key h.protected h.dirty c.in-Hit.frame c.self.invariant.0 h.is) }

pub invariant_of-self : goal.invariant_of-self
invariant_of-self g c =
    let s = c.self.inside in
    let has = c.self.invariant.1.table c.args.key (ap (λ (v : Core). has_page v.setup c.args.key) c.self.view_is ∙ c.requires.page) in
    let old = table_entry s.table c.args.key in
    let f = c.in-Hit.frame in
    let h = hit_held old wants.Read f c.in-Hit.ensures.exact in
    let at : frame_in old ≡ Some f = ap frame_in h.is in
    let frames = entry_marked s.table s.buffer (reads_of s.regions.items) c.args.key (cleaned old) f true c.self.invariant.0 has (cleaned_frame old) at (cleaned_dirt old f at) in
    let tied = still_tied s.table _ s.buffer (marked s.buffer f true) (reads_of s.regions.items) frames c.self.invariant.0 in
    rw (c.mark_clean-2.ensures.marked, c.mark_clean.ensures.entry) (tied, retabled c.args.key (cleaned old) has (still_within s.table c.args.key (cleaned old) has s.queue (cleaned_guards old) c.self.invariant.1.lost) (resized (marked s.buffer f true) refl refl refl c.self.invariant.1), c.self.invariant.2, c.self.invariant.3, c.self.invariant.4)

pub returns : goal.returns
returns g c =
    let s = c.self.inside in
    let has = c.self.invariant.1.table c.args.key (ap (λ (v : Core). has_page v.setup c.args.key) c.self.view_is ∙ c.requires.page) in
    let guarded = protected_is (table_entry s.table c.args.key) (sym (ap (λ (x : Bits). x.protected) c.bits.ensures.exact) ∙ shut_bit c.bits.result.protected c.if-not-bits.false) in
    let change : Resident → Resident = λ r. record r { dirty = r.dirty && not r.protected } in
    let pages = entry_changes s.table s.buffer c.args.key (cleaned (table_entry s.table c.args.key)) change has (cleaned_page s.buffer c.args.key (table_entry s.table c.args.key) guarded.1) in
    record { step = rw (c.mark_clean-2.ensures.marked, c.mark_clean.ensures.entry, ← c.self.view_is) (cc pages) }

open_bit : (b : Bool) → not b ≡ true → b ≡ false
open_bit true e = absurd cc
open_bit false e = refl

pub returns-then-not-bits : goal.returns-then-not-bits
returns-then-not-bits g c =
    let s = c.self.inside in
    let pages = open_stays s.table s.buffer c.args.key (sym (ap (λ (x : Bits). x.protected) c.bits.ensures.exact) ∙ open_bit c.bits.result.protected c.if-not-bits.true) in
    record { step = rw (← c.self.view_is) (cc pages) }
