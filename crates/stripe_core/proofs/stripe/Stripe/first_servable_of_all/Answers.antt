use Rattle.std.proofs.Common.{◌∙◌, ap, sym, map}
use Rattle.std.specs.List.{find}
use Rattle.page_base.specs.declared.keys.Raise.{Raise}
use Rattle.page_model.specs.Core.{Core}
use Rattle.page_model.specs.Core as core
use Rattle.page_model.specs.Setups.{has_page}
use Rattle.stripe_core.specs.Configs.{setup_of}
use Rattle.stripe_core.proofs.Sizes.{all_at}
use Rattle.stripe_core.proofs.stripe.Stripe.first_servable_of_all.Goals as goal

pub first_where-requires : goal.first_where-requires
first_where-requires g c =
    let s = c.self.inside in
    record { callable = λ r con. sym (ap (λ (v : Core). has_page v.setup r.key) c.self.view_is) ∙ all_at (λ (p : Raise). has_page (setup_of s.config.value (map g.S.Store.seen s.lanes.value.items)) p.key) s.queue.raises r c.self.invariant.1.queued (rw c.faults.ensures.raises at con) }

pub returns : goal.returns
returns g c =
    let found = c.first_where.ensures.computed (core.is_servable c.args.self.now) (λ r b con y. y.2) in
    record { exact = rw c.faults.ensures.raises at found ∙ ap (λ (v : Core). find (core.is_servable c.args.self.now) v.queue) c.self.view_is }
