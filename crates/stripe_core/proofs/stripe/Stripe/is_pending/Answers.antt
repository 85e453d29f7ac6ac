use Rattle.std.proofs.Common.{◌≡◌, ◌∙◌, ap, subst}
use Rattle.std.specs.Option.{is_some}
use Rattle.page_model.specs.Core.{Core, is_pending}
use Rattle.stripe_core.proofs.Waiting.{pending_is}
use Rattle.stripe_core.proofs.stripe.Stripe.is_pending.Goals as goal

pub returns : goal.returns
returns g c =
    let s = c.self.inside in
    let P : Core → Type 0 = λ v. is_some c.pending.result ≡ is_pending v c.args.key in
    let all = subst P c.self.view_is (ap is_some c.pending.ensures.exact ∙ pending_is s.queue.raises c.args.key) in
    record { exact = c.is_some.ensures ∙ all }
