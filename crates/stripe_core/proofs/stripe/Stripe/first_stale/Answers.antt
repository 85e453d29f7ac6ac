use Rattle.std.proofs.Common.{◌≡◌, ◌∙◌, ap, sym, arith}
use Rattle.std.specs.List.{find}
use Rattle.page_model.specs.Core.{Core}
use Rattle.page_model.specs.Core as core
use Rattle.stripe_core.specs.InsideServing.{in_closing}
use Rattle.stripe_core.proofs.Looks.{at_now}
use Rattle.stripe_core.proofs.Serving.{none_stale}
use Rattle.stripe_core.proofs.stripe.Stripe.first_stale.Goals as goal

pub returns-else-lost-gt0 : goal.returns-else-lost-gt0
returns-else-lost-gt0 g c =
    let s = c.self.inside in
    let now = c.args.self.now in
    let queue = ap (λ (v : Core). v.queue) c.self.view_is in
    let none : s.queue.lost ≡ 0 = omega (arith, c.lost.ensures.exact, c.if-lost-gt0.false) in
    let same = none_stale now s.table s.buffer s.queue c.self.invariant.1.lost none (λ k. at_now now s.table s.buffer _ k c.self.invariant.0 (ap (λ (v : Core). v.pages) c.self.view_is)) in
    record { exact = c.first_closing.ensures.exact ∙ (ap (find (in_closing now)) (sym queue) ∙ (same ∙ ap (find (core.is_stale now)) queue)) }
