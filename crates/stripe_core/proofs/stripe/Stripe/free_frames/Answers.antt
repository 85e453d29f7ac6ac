use Rattle.std.proofs.Common.{◌∙◌, ap}
use Rattle.page_model.specs.Core.{Core}
use Rattle.page_model.specs.Setups.{quota}
use Rattle.stripe_core.proofs.Waiting.{free_frames_are}
use Rattle.stripe_core.proofs.stripe.Stripe.free_frames.Goals as goal

pub returns : goal.returns
returns g c =
    let s = c.self.inside in
    let frames = c.self.invariant.1.frames ∙ ap (λ (v : Core). quota v.setup) c.self.view_is in
    record { exact = free_frames_are g.S.Store.seen c.args.self.now s.table s.buffer s.regions.items c.free.result c.self.invariant.0 (ap (λ (v : Core). v.pages) c.self.view_is) (ap (λ (v : Core). v.regions) c.self.view_is) frames c.free.ensures.together }
