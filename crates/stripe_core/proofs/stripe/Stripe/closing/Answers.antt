use Rattle.stripe_core.proofs.stripe.Stripe.closing.Goals as goal

pub returns-clause-stands : goal.returns-clause-stands
returns-clause-stands g c = λ h o s. rw c.closing_step.ensures.step (c.closing_stands.ensures h o c.args.self.now c.args.region s c.requires.region c.requires.first)
