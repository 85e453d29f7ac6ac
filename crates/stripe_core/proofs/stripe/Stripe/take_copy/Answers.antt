use Rattle.std.proofs.Common.{true, ap, is_some, sym, ◌∙◌}
use Rattle.soft_mmu.specs.declared.entry.PageEntry.TheVariants.{Present}
use Rattle.soft_mmu.specs.declared.entry.Wants.TheVariants as wants
use Rattle.soft_mmu.specs.Entries.{table_entry, closed}
use Rattle.page_model.specs.Core.{Core, Resident}
use Rattle.page_model.specs.Setups.{has_page}
use Rattle.stripe_core.specs.Parts.{page_in}
use Rattle.stripe_core.proofs.Looks.{at_now, hit_held, holds_page, is_held}
use Rattle.stripe_core.proofs.Looks as looks
use Rattle.stripe_core.proofs.Rebits.{entry_same, entry_changes, closed_frame, closed_dirt, closed_page, present_is}
use Rattle.stripe_core.proofs.Sizes.{retabled}
use Rattle.stripe_core.proofs.Ties.{still_tied}
use Rattle.stripe_core.proofs.Writing.{found_there}
use Rattle.stripe_core.proofs.Lost.{still_within, closed_guards}
use Rattle.stripe_core.proofs.stripe.Stripe.take_copy.Goals as goal

pub unreachable-requires : goal.unreachable-requires
unreachable-requires g c =
    let s = c.self.inside in
    let at = at_now c.args.self.now s.table s.buffer _ c.args.key c.self.invariant.0 (ap (λ (v : Core). v.pages) c.self.view_is) in
    let hit = found_there (table_entry s.table c.args.key) (present_is s.buffer c.args.key (table_entry s.table c.args.key) (sym (ap is_some at) ∙ c.requires.present)) in
    c.in_default.not-Hit hit.0 (c.translate.ensures.exact ∙ hit.1)

pub bytes-requires : goal.bytes-requires
bytes-requires g c =
    let s = c.self.inside in
    let h = hit_held (table_entry s.table c.args.key) wants.Read c.in-Hit.frame c.in-Hit.ensures.exact in
    record { resident = is_held _ c.args.key (holds_page s.table s.buffer _ c.args.key h.protected h.dirty c.in-Hit.frame c.self.invariant.0 h.is) }

pub invariant_of-self : goal.invariant_of-self
invariant_of-self g c =
    let s = c.self.inside in
    let has = c.self.invariant.1.table c.args.key (ap (λ (v : Core). has_page v.setup c.args.key) c.self.view_is ∙ c.requires.page) in
    let new = closed (table_entry s.table c.args.key) in
    let tied = still_tied s.table _ s.buffer s.buffer _ (entry_same s.table s.buffer c.args.key new has (closed_frame _) (closed_dirt (table_entry s.table c.args.key))) c.self.invariant.0 in
    rw c.protect.ensures.entry (tied, retabled c.args.key new has (still_within s.table c.args.key new has s.queue (closed_guards (table_entry s.table c.args.key)) c.self.invariant.1.lost) c.self.invariant.1, c.self.invariant.2, c.self.invariant.3, c.self.invariant.4)

pub returns-clause-step : goal.returns-clause-step
returns-clause-step g c =
    let s = c.self.inside in
    let has = c.self.invariant.1.table c.args.key (ap (λ (v : Core). has_page v.setup c.args.key) c.self.view_is ∙ c.requires.page) in
    let at = at_now c.args.self.now s.table s.buffer _ c.args.key c.self.invariant.0 (ap (λ (v : Core). v.pages) c.self.view_is) in
    let present = present_is s.buffer c.args.key (table_entry s.table c.args.key) (sym (ap is_some at) ∙ c.requires.present) in
    let change : Resident → Resident = λ r. record r { protected = true } in
    let pages = entry_changes s.table s.buffer c.args.key (closed (table_entry s.table c.args.key)) change has (closed_page s.buffer c.args.key (table_entry s.table c.args.key) present) in
    rw (c.protect.ensures.entry, ← c.self.view_is) (cc pages)

pub returns-clause-copy : goal.returns-clause-copy
returns-clause-copy g c =
    let s = c.self.inside in
    let at = at_now c.args.self.now s.table s.buffer _ c.args.key c.self.invariant.0 (ap (λ (v : Core). v.pages) c.self.view_is) in
    let h = hit_held (table_entry s.table c.args.key) wants.Read c.in-Hit.frame c.in-Hit.ensures.exact in
    record {
      there = page_in s.buffer c.args.key (Present h.protected h.dirty c.in-Hit.frame);
      is = looks.there c.args.self.now s.buffer c.args.key (table_entry s.table c.args.key) c.in-Hit.frame at h;
      same_bytes = cc (c.copy_from_slice.ensures.after, c.bytes.ensures.bytes);
    }
