use Rattle.std.proofs.Common.{Some, ap, sym, ◌∙◌}
use Rattle.page_model.specs.Core.{Core}
use Rattle.stripe_core.proofs.Finds.{got_in, got_none, got_pick, held_present}
use Rattle.stripe_core.proofs.stripe.Stripe.resident_at.Goals as goal

pub pick_of-requires : goal.pick_of-requires
pick_of-requires g c =
    let s = c.self.inside in
    record { present = held_present c.args.self.now s.table s.buffer c.in-Some.key (ap (λ (v : Core). v.pages) c.self.view_is) (got_in s.buffer.residents c.args.place c.in-Some.key (sym c.in-Some.ensures.exact)) }

pub returns-in-Some : goal.returns-in-Some
returns-in-Some g c =
    let s = c.self.inside in
    let got = got_pick c.args.self.now s.table s.buffer c.args.place c.in-Some.key (ap (λ (v : Core). v.pages) c.self.view_is) (sym c.in-Some.ensures.exact) in
    record { exact = ap (λ p. Some p) c.pick_of.ensures.exact ∙ sym got }

pub returns-in-None : goal.returns-in-None
returns-in-None g c =
    let s = c.self.inside in
    record { exact = got_none c.args.self.now s.table s.buffer c.args.place (ap (λ (v : Core). v.pages) c.self.view_is) (sym c.in-None.ensures.exact) }
