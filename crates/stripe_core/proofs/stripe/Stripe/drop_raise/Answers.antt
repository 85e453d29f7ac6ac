use Rattle.stripe_core.proofs.stripe.Stripe.drop_raise.Goals as goal

pub returns-clause-stands : goal.returns-clause-stands
returns-clause-stands g c = λ h o s. rw c.drop_step.ensures.step (c.drop_raise_stands.ensures h o c.args.self.now c.next_drop-key.result s c.next_drop-key.ensures.is)
