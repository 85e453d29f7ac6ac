use Rattle.std.proofs.Common.{ap, is_some, sym, ◌∙◌}
use Rattle.soft_mmu.specs.declared.entry.Bits.{Bits}
use Rattle.soft_mmu.specs.Entries.{table_entry}
use Rattle.page_model.specs.Core.{Core}
use Rattle.stripe_core.proofs.Finds.{present_has}
use Rattle.stripe_core.proofs.Looks.{at_now, dirty_bit}
use Rattle.stripe_core.proofs.Rebits.{present_is}
use Rattle.stripe_core.proofs.stripe.Stripe.pick_of.Goals as goal

pub bits-dirty-requires : goal.bits-dirty-requires
bits-dirty-requires g c =
    let s = c.self.inside in
    let at = at_now c.args.self.now s.table s.buffer _ c.args.key c.self.invariant.0 (ap (λ (v : Core). v.pages) c.self.view_is) in
    record { page = present_has s.table c.args.key (present_is s.buffer c.args.key (table_entry s.table c.args.key) (sym (ap is_some at) ∙ c.requires.present)) }

pub returns : goal.returns
returns g c =
    let s = c.self.inside in
    let at = at_now c.args.self.now s.table s.buffer _ c.args.key c.self.invariant.0 (ap (λ (v : Core). v.pages) c.self.view_is) in
    let bit = ap (λ (x : Bits). x.dirty) c.bits-dirty.ensures.exact ∙ dirty_bit c.args.self.now s.buffer c.args.key (table_entry s.table c.args.key) at in
    record { exact = λ i. record { key = c.args.key; dirty = bit i } }
