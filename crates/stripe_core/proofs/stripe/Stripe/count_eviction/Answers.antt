use Rattle.std.proofs.Common.{arith, length, map, nat_lt, refl, sym, ◌&&◌, ◌+◌, ◌∙◌, ◌≡◌}
use Rattle.std.proofs.lemmas.List.{length-map}
use Rattle.page_base.specs.Pages.{off_mark}
use Rattle.page_model.specs.Setups.{quota}
use Rattle.stripe_core.specs.Configs.{setup_of}
use Rattle.stripe_core.specs.Parts.{page_seen, pages_seen}
use Rattle.stripe_core.specs.InsideTied.{CountsWithin}
use Rattle.stripe_core.proofs.stripe.Stripe.count_eviction.Goals as goal

pub invariant_of-self : goal.invariant_of-self
invariant_of-self g c =
    let s = c.self.inside in
    let counted : CountsWithin (record s.counts { evictions = s.counts.evictions + 1 }) (s.events + 1) = omega (arith, c.self.invariant.4) in
    (c.self.invariant.0, c.self.invariant.1, c.self.invariant.2, c.self.invariant.3, counted)

pub returns : goal.returns
returns g c =
    let s = c.self.inside in
    let held = c.resident.ensures.exact ∙ sym (length-map s.buffer.residents (page_seen s.table s.buffer)) in
    let on : c.goes_on-still.result ≡ (nat_lt (off_mark (quota (setup_of s.config.value (map g.S.Store.seen s.lanes.value.items))) s.config.value.low) (length (pages_seen s.table s.buffer)) && s.evicting) = c.goes_on-still.ensures ∙ rw (c.self.invariant.1.off, held) refl in
    record { step = rw (← c.self.view_is) (cc on) }
