use Rattle.std.proofs.Common.{◌≡◌, ◌∙◌, ap, sym, map, true}
use Rattle.std.specs.List.{find}
use Rattle.page_base.specs.declared.keys.Raise.{Raise}
use Rattle.page_model.specs.Core.{Core}
use Rattle.page_model.specs.Core as core
use Rattle.page_model.specs.Setups.{has_page}
use Rattle.stripe_core.specs.Configs.{setup_of}
use Rattle.stripe_core.specs.InsideServing.{in_closing}
use Rattle.fault_queue.specs.Queues.{passes_by}
use Rattle.stripe_core.proofs.Sizes.{all_at}
use Rattle.stripe_core.proofs.Serving.{region_fits, by_closing}
use Rattle.stripe_core.proofs.stripe.Stripe.first_closing.Goals as goal

pub first_among-requires : goal.first_among-requires
first_among-requires g c =
    let s = c.self.inside in
    record {
      callable = λ r con.
          let has : has_page c.args.self.now.setup r.key ≡ true = sym (ap (λ (v : Core). has_page v.setup r.key) c.self.view_is) ∙ all_at (λ (p : Raise). has_page (setup_of s.config.value (map g.S.Store.seen s.lanes.value.items)) p.key) s.queue.raises r c.self.invariant.1.queued (rw c.faults.ensures.raises at con) in
          region_fits c.args.self.now.setup r.key has;
    }

pub returns : goal.returns
returns g c =
    let s = c.self.inside in
    let setup = setup_of s.config.value (map g.S.Store.seen s.lanes.value.items) in
    let found = c.first_among.ensures.computed (λ n b. core.is_closing c.args.self.now n) (λ r b con y. y) ∙ ap (find (passes_by (λ n b. core.is_closing c.args.self.now n))) c.faults.ensures.raises in
    record { exact = found ∙ (by_closing c.args.self.now setup s.queue.raises c.self.invariant.1.queued c.self.invariant.1.few ∙ ap (λ (v : Core). find (in_closing c.args.self.now) v.queue) c.self.view_is) }
