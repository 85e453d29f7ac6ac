use Rattle.std.proofs.Common.{ap, is_some, length-set, refl, sym, ◌∙◌}
use Rattle.soft_mmu.specs.declared.entry.PageEntry.TheVariants.{Absent}
use Rattle.soft_mmu.specs.declared.entry.Wants.TheVariants as wants
use Rattle.soft_mmu.specs.Entries.{table_entry}
use Rattle.page_buffer.specs.Buffers.{released}
use Rattle.page_buffer.specs.Frames.{Free}
use Rattle.page_model.specs.Core.{Core}
use Rattle.page_model.specs.Setups.{has_page}
use Rattle.stripe_core.specs.InsideTied.{frame_in}
use Rattle.stripe_core.proofs.Looks.{at_now, hit_held, holds_page, is_held}
use Rattle.stripe_core.proofs.Rebits.{present_is}
use Rattle.stripe_core.proofs.Releases.{release_tied, pages_released}
use Rattle.stripe_core.specs.InsideWaiting.{with_lost}
use Rattle.stripe_core.proofs.Sizes.{retabled, resized, requeued}
use Rattle.stripe_core.proofs.Writing.{found_there}
use Rattle.stripe_core.proofs.Lost.{lost_freed, more_lost}
use Rattle.stripe_core.proofs.stripe.Stripe.free_page.Goals as goal

pub unreachable-requires : goal.unreachable-requires
unreachable-requires g c =
    let s = c.self.inside in
    let at = at_now c.args.self.now s.table s.buffer _ c.args.key c.self.invariant.0 (ap (λ (v : Core). v.pages) c.self.view_is) in
    let hit = found_there (table_entry s.table c.args.key) (present_is s.buffer c.args.key (table_entry s.table c.args.key) (sym (ap is_some at) ∙ c.requires.present)) in
    c.in_default.not-Hit hit.0 (c.translate.ensures.exact ∙ hit.1)

pub remove-requires : goal.remove-requires
remove-requires g c =
    let s = c.self.inside in
    let has = c.self.invariant.1.table c.args.key (ap (λ (v : Core). has_page v.setup c.args.key) c.self.view_is ∙ c.requires.page) in
    let at = at_now c.args.self.now s.table s.buffer _ c.args.key c.self.invariant.0 (ap (λ (v : Core). v.pages) c.self.view_is) in
    record { page = has; present = present_is s.buffer c.args.key (table_entry s.table c.args.key) (sym (ap is_some at) ∙ c.requires.present) }

pub release-requires : goal.release-requires
release-requires g c =
    let s = c.self.inside in
    let h = hit_held (table_entry s.table c.args.key) wants.Read c.in-Hit.frame c.in-Hit.ensures.exact in
    record { resident = is_held _ c.args.key (holds_page s.table s.buffer _ c.args.key h.protected h.dirty c.in-Hit.frame c.self.invariant.0 h.is) }

pub invariant_of-self : goal.invariant_of-self
invariant_of-self g c =
    let s = c.self.inside in
    let has = c.self.invariant.1.table c.args.key (ap (λ (v : Core). has_page v.setup c.args.key) c.self.view_is ∙ c.requires.page) in
    let h = hit_held (table_entry s.table c.args.key) wants.Read c.in-Hit.frame c.in-Hit.ensures.exact in
    let tied = release_tied s.table s.buffer _ c.args.key c.in-Hit.frame c.self.invariant.0 has (ap frame_in h.is) in
    let lost = lost_freed s.table c.args.key Absent has s.queue c.lose.ensures.once c.self.invariant.1.lost in
    let sized = retabled c.args.key Absent has lost (requeued (with_lost s.queue c.args.key) refl c.self.invariant.1.queued (more_lost s.table s.queue c.args.key c.self.invariant.1.lost) (resized (released s.buffer c.in-Hit.frame) refl refl (length-set s.buffer.frames c.in-Hit.frame Free) c.self.invariant.1)) in
    rw (c.lose.ensures.exact, c.remove.ensures.entry, c.release.ensures.released) (tied, sized, c.self.invariant.2, c.self.invariant.3, c.self.invariant.4)

pub returns : goal.returns
returns g c =
    let s = c.self.inside in
    let has = c.self.invariant.1.table c.args.key (ap (λ (v : Core). has_page v.setup c.args.key) c.self.view_is ∙ c.requires.page) in
    let h = hit_held (table_entry s.table c.args.key) wants.Read c.in-Hit.frame c.in-Hit.ensures.exact in
    let pages = pages_released s.table s.buffer _ c.args.key c.in-Hit.frame c.self.invariant.0 has (ap frame_in h.is) in
    record { step = rw (c.lose.ensures.exact, c.remove.ensures.entry, c.release.ensures.released, ← c.self.view_is) (cc pages) }
