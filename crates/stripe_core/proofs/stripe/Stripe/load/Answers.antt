use Rattle.std.proofs.Common.{sym, ◌∙◌}
use Rattle.stripe_core.proofs.Looks.{load_can}
use Rattle.stripe_core.proofs.stripe.Stripe.load.Goals as goal

pub returns-clause-stands : goal.returns-clause-stands
returns-clause-stands g c =
    λ e h o s.
    let page = rw (← c.load_step.auto.buf) at c.requires.in_page in
    rw (c.load_step.ensures.step e) (c.load_stands.ensures h o c.args.self.now c.args.key c.args.place c.load_step.new.buf s (load_can c.args.self.now c.args.key c.args.place c.load_step.new.buf page (sym e ∙ c.load_step.ensures.answer) (c.load_step.ensures.bytes e)))
