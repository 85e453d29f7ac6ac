use Rattle.stripe_core.proofs.stripe.Stripe.open_page.Goals as goal

pub returns-clause-stands : goal.returns-clause-stands
returns-clause-stands g c = λ h o s. rw c.open_step.ensures.step (c.open_page_stands.ensures h o c.args.self.now c.next_open-key.result s c.next_open-key.ensures.is)
