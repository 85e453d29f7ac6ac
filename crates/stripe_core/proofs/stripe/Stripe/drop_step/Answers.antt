use Rattle.std.proofs.Common.{ap, arith, refl, ◌+◌, ◌∙◌, ◌≡◌}
use Rattle.soft_mmu.specs.declared.entry.Bits.{Bits}
use Rattle.soft_mmu.specs.Entries.{table_entry, is_protected}
use Rattle.page_model.specs.Setups.{has_page}
use Rattle.page_model.specs.Core.{Core, is_pending}
use Rattle.stripe_core.specs.InsideTied.{CountsWithin}
use Rattle.stripe_core.proofs.Sizes.{requeued, all_others}
use Rattle.stripe_core.proofs.Waiting.{pending_is}
use Rattle.stripe_core.proofs.Lost.{lost_dropped, bit_is}
use Rattle.stripe_core.proofs.stripe.Stripe.drop_step.Goals as goal

pub bits-guarded-requires : goal.bits-guarded-requires
bits-guarded-requires g c = record { page = c.self.invariant.1.table c.args.key (ap (λ (v : Core). has_page v.setup c.args.key) c.self.view_is ∙ c.requires.page) }

pub drop_out-requires : goal.drop_out-requires
drop_out-requires g c = record { pending = pending_is c.self.inside.queue.raises c.args.key ∙ (ap (λ (v : Core). is_pending v c.args.key) c.self.view_is ∙ c.requires.pending) }

pub invariant_of-self : goal.invariant_of-self
invariant_of-self g c =
    let s = c.self.inside in
    let counted : CountsWithin s.counts (s.events + 1) = omega (arith, c.self.invariant.4) in
    let queued = all_others _ _ s.queue.raises c.self.invariant.1.queued in
    let guarded : c.bits-guarded.result.protected ≡ is_protected (table_entry s.table c.args.key) = ap (λ (x : Bits). x.protected) c.bits-guarded.ensures.exact ∙ bit_is (table_entry s.table c.args.key) in
    let lost = lost_dropped s.table s.queue c.args.key c.bits-guarded.result.protected guarded c.self.invariant.1.lost in
    rw c.drop_out.ensures.exact (c.self.invariant.0, requeued _ refl queued lost c.self.invariant.1, c.self.invariant.2, c.self.invariant.3, counted)
