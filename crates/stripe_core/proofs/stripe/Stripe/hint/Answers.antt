use Rattle.std.proofs.Common.{ap, ◌∙◌}
use Rattle.page_model.specs.Core.{Core, hint_answer}
use Rattle.stripe_core.proofs.Looks.{hint_fixed}
use Rattle.stripe_core.proofs.stripe.Stripe.hint.Goals as goal

pub returns-clause-fixed : goal.returns-clause-fixed
returns-clause-fixed g c = ap (λ (x : Core). x.setup) c.hint_step.ensures.step ∙ hint_fixed c.args.self.now c.args.key (hint_answer c.args.self.now c.args.key)

pub returns-clause-stands : goal.returns-clause-stands
returns-clause-stands g c = λ h o s. rw (c.hint_step.ensures.step, c.hint_step.ensures.answer) (c.hint_stands.ensures h o c.args.self.now c.args.key s c.requires.page)
