use Rattle.std.proofs.Common.{◌∙◌, ap}
use Rattle.soft_mmu.specs.declared.entry.Bits.{Bits}
use Rattle.soft_mmu.specs.Entries.{table_entry}
use Rattle.page_model.specs.Core.{Core}
use Rattle.stripe_core.proofs.Looks.{at_now, protected_bit}
use Rattle.stripe_core.proofs.stripe.Stripe.is_guarded.Goals as goal

pub returns : goal.returns
returns g c =
    let s = c.self.inside in
    let at = at_now c.args.self.now s.table s.buffer _ c.args.key c.self.invariant.0 (ap (λ (v : Core). v.pages) c.self.view_is) in
    record { exact = ap (λ (x : Bits). x.protected) c.bits.ensures.exact ∙ protected_bit c.args.self.now s.buffer c.args.key (table_entry s.table c.args.key) at }
