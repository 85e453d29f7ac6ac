use Rattle.std.proofs.Common.{sym, ◌∙◌}
use Rattle.stripe_core.proofs.Looks.{save_hits}
use Rattle.stripe_core.proofs.stripe.Stripe.save.Goals as goal

pub returns-clause-stands : goal.returns-clause-stands
returns-clause-stands g c =
    λ e h o s.
    let hits = save_hits c.args.self.now c.args.key (sym e ∙ c.save_step.ensures.answer) in
    rw (c.save_step.ensures.step e) (c.save_stands.ensures h o c.args.self.now c.args.key c.args.place c.args.bytes.now s
    (record { in_page = c.requires.in_page; writable = c.requires.writable; not_closing = hits.not_closing; present = hits.present; unguarded = hits.unguarded }))
