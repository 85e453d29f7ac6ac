use Rattle.std.proofs.Common.{ap}
use Rattle.page_model.specs.Core.{Core}
use Rattle.stripe_core.proofs.NextDirty.{bits_agree, next_dirty_is}
use Rattle.stripe_core.proofs.stripe.Stripe.next_dirty.Goals as goal

pub returns : goal.returns
returns g c =
    let s = c.self.inside in
    let agree = bits_agree c.args.self.now s.table s.buffer _ c.self.invariant.0 (ap (λ (v : Core). v.pages) c.self.view_is) in
    record { exact = next_dirty_is c.flush_knows.ensures c.args.self.now s.table s.buffer agree c.args.after c.next_dirty.result c.next_dirty.ensures.next c.next_dirty.ensures.none }
