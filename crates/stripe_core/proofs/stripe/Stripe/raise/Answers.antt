use Rattle.std.proofs.Common.{sym, ◌∙◌}
use Rattle.stripe_core.proofs.Looks.{raise_hits}
use Rattle.stripe_core.proofs.Lost.{fits_why}
use Rattle.stripe_core.proofs.stripe.Stripe.raise.Goals as goal

pub returns-clause-stands : goal.returns-clause-stands
returns-clause-stands g c =
    λ e h o s.
    let hits = raise_hits c.args.self.now c.args.key (sym e ∙ c.raise_step.ensures.answer) in
    rw (c.raise_step.ensures.step e) (c.raise_stands.ensures h o c.args.self.now c.args.key c.args.why s
    (record { page = c.requires.page; not_closing = c.requires.not_closing; not_pending = hits.not_pending; not_reading = hits.not_reading; room = hits.room; fits = c.requires.fits }))

pub raise_step-requires-clause-fits : goal.raise_step-requires-clause-fits
raise_step-requires-clause-fits g c = λ e. fits_why c.args.self.now c.args.key c.args.why c.requires.fits e
