use Rattle.std.proofs.Common.{ap, length, nat_lt, ◌&&◌, ◌+◌, ◌∙◌, ◌≡◌}
use Rattle.page_base.specs.Pages.{off_mark}
use Rattle.page_model.specs.Core.{Core, frames_held}
use Rattle.page_model.specs.Steps as step
use Rattle.stripe_core.proofs.stripe.Stripe.evict.Goals as goal

pub returns-clause-stands : goal.returns-clause-stands
returns-clause-stands g c =
    λ h o s.
    let counts : Core → Core = λ v. record v { evicting = nat_lt (off_mark (frames_held v) v.setup.low) (length v.pages) && v.evicting; counts = record v.counts { evictions = v.counts.evictions + 1 }; events = v.events + 1 } in
    let made : c.count_eviction.new.self ≡ step.evict c.args.self.now c.args.key = c.count_eviction.ensures.step ∙ ap counts c.free_page.ensures.step in
    rw made (c.evict_stands.ensures h o c.args.self.now c.args.key c.args.why s c.requires.can)
