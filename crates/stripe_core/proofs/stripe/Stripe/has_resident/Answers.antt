use Rattle.std.proofs.Common.{ap, nat_lt, sym, ◌∙◌}
use Rattle.std.specs.List.{list_any}
use Rattle.stripe_core.specs.InsideFrameStates.{keys_of}
use Rattle.stripe_core.proofs.Finds.{keys_seen}
use Rattle.stripe_core.proofs.PresentIn.{of_region, present_any}
use Rattle.stripe_core.proofs.stripe.Stripe.has_resident.Goals as goal

pub returns : goal.returns
returns g c =
    let s = c.self.inside in
    let keys = sym (keys_seen s.table s.buffer s.buffer.residents) ∙ ap keys_of c.self.view_is in
    let counted = ap (nat_lt 0) c.present_in.ensures.exact ∙ present_any s.table s.buffer _ c.args.region c.self.invariant.0 in
    record { exact = counted ∙ ap (list_any (of_region c.args.region)) keys }
