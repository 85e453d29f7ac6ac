use Rattle.std.proofs.Common.{Some, ◌≡◌, true, false, ap, arith, refl, sym, ◌+◌, ◌∙◌}
use Rattle.soft_mmu.specs.declared.entry.Wants.TheVariants as wants
use Rattle.soft_mmu.specs.Entries.{table_entry, opened}
use Rattle.page_buffer.specs.Buffers.{marked}
use Rattle.fault_queue.specs.Queues.{without}
use Rattle.page_model.specs.Core.{Core, Resident, is_pending, protects}
use Rattle.page_model.specs.Setups.{has_page}
use Rattle.stripe_core.specs.InsideTied.{CountsWithin, frame_in}
use Rattle.stripe_core.specs.InsideParts.{reads_of}
use Rattle.stripe_core.proofs.Looks.{at_now, hit_held, holds_page, is_held}
use Rattle.stripe_core.proofs.Writing.{found_there}
use Rattle.stripe_core.proofs.Rebits.{entry_marked, entry_changes, opened_frame, opened_dirt, opened_page, guarded_is}
use Rattle.stripe_core.proofs.Sizes.{resized, requeued, retabled, all_others}
use Rattle.stripe_core.proofs.Ties.{still_tied}
use Rattle.stripe_core.proofs.Waiting.{pending_is}
use Rattle.stripe_core.proofs.Lost.{opened_within, lost_withdrawn}
use Rattle.stripe_core.proofs.stripe.Stripe.open_step.Goals as goal

pub open_page-requires : goal.open_page-requires
open_page-requires g c =
    let s = c.self.inside in
    let at = at_now c.args.self.now s.table s.buffer _ c.args.key c.self.invariant.0 (ap (λ (v : Core). v.pages) c.self.view_is) in
    let guarded = guarded_is s.buffer c.args.key (table_entry s.table c.args.key) (sym (ap protects at) ∙ c.requires.guarded) in
    let has = c.self.invariant.1.table c.args.key (ap (λ (v : Core). has_page v.setup c.args.key) c.self.view_is ∙ c.requires.page) in
    record { page = has; present = guarded.0; protected = guarded.1 }

pub withdraw-requires : goal.withdraw-requires
withdraw-requires g c = record { pending = pending_is c.self.inside.queue.raises c.args.key ∙ (ap (λ (v : Core). is_pending v c.args.key) c.self.view_is ∙ c.requires.pending) }

pub unreachable-requires : goal.unreachable-requires
unreachable-requires g c =
    let s = c.self.inside in
    let at = at_now c.args.self.now s.table s.buffer _ c.args.key c.self.invariant.0 (ap (λ (v : Core). v.pages) c.self.view_is) in
    let guarded = guarded_is s.buffer c.args.key (table_entry s.table c.args.key) (sym (ap protects at) ∙ c.requires.guarded) in
    let hit = found_there (table_entry s.table c.args.key) guarded.0 in
    c.in_default.not-Hit hit.0 (c.translate.ensures.exact ∙ hit.1)

pub mark_dirty-requires : goal.mark_dirty-requires
mark_dirty-requires g c =
    let s = c.self.inside in
    let h = hit_held (table_entry s.table c.args.key) wants.Read c.in-Hit.frame c.in-Hit.ensures.exact in
    record { resident = is_held _ c.args.key (holds_page s.table s.buffer _ c.args.key h.protected h.dirty c.in-Hit.frame c.self.invariant.0 h.is) }

pub invariant_of-self : goal.invariant_of-self
invariant_of-self g c =
    let s = c.self.inside in
    let has = c.self.invariant.1.table c.args.key (ap (λ (v : Core). has_page v.setup c.args.key) c.self.view_is ∙ c.requires.page) in
    let old = table_entry s.table c.args.key in
    let f = c.in-Hit.frame in
    let h = hit_held old wants.Read f c.in-Hit.ensures.exact in
    let at : frame_in old ≡ Some f = ap frame_in h.is in
    let frames = entry_marked s.table s.buffer (reads_of s.regions.items) c.args.key (opened old) f false c.self.invariant.0 has (opened_frame old) at (opened_dirt old f at) in
    let tied = still_tied s.table _ s.buffer (marked s.buffer f false) (reads_of s.regions.items) frames c.self.invariant.0 in
    let queued = all_others _ _ s.queue.raises c.self.invariant.1.queued in
    let sized = retabled c.args.key (opened old) has (opened_within s.table c.args.key (opened old) has s.queue c.self.invariant.1.lost) (requeued (record s.queue { raises = without c.args.key s.queue.raises }) refl queued (lost_withdrawn s.table s.queue c.args.key c.self.invariant.1.lost) (resized (marked s.buffer f false) refl refl refl c.self.invariant.1)) in
    let counted : CountsWithin s.counts (s.events + 1) = omega (arith, c.self.invariant.4) in
    rw (c.withdraw.ensures.others, c.mark_dirty.ensures.marked, c.open_page.ensures.entry) (tied, sized, c.self.invariant.2, c.self.invariant.3, counted)

pub returns : goal.returns
returns g c =
    let s = c.self.inside in
    let at = at_now c.args.self.now s.table s.buffer _ c.args.key c.self.invariant.0 (ap (λ (v : Core). v.pages) c.self.view_is) in
    let guarded = guarded_is s.buffer c.args.key (table_entry s.table c.args.key) (sym (ap protects at) ∙ c.requires.guarded) in
    let has = c.self.invariant.1.table c.args.key (ap (λ (v : Core). has_page v.setup c.args.key) c.self.view_is ∙ c.requires.page) in
    let change : Resident → Resident = λ r. record r { protected = false; dirty = true } in
    let pages = entry_changes s.table s.buffer c.args.key (opened (table_entry s.table c.args.key)) change has (opened_page s.buffer c.args.key (table_entry s.table c.args.key) guarded.0) in
    record { step = rw (c.withdraw.ensures.others, c.mark_dirty.ensures.marked, c.open_page.ensures.entry, ← c.self.view_is) (cc pages) }
