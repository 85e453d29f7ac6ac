use Rattle.stripe_core.proofs.stripe.Stripe.unmapped.Goals as goal

pub returns-clause-stands : goal.returns-clause-stands
returns-clause-stands g c = λ h o s. rw c.unmapped_step.ensures.step (c.unmapped_stands.ensures h o c.args.self.now c.args.region s c.requires.can)
