use Rattle.std.proofs.Common.{◌∙◌, ap, sym}
use Rattle.std.specs.Option.{is_some}
use Rattle.page_model.specs.Core as core
use Rattle.fault_queue.specs.Queues.{raise_of}
use Rattle.stripe_core.proofs.Firsts.{found_any, mapped_some}
use Rattle.stripe_core.proofs.stripe.Stripe.some_waits.Goals as goal

pub returns : goal.returns
returns g c = record { exact = c.is_some.ensures ∙ (sym (mapped_some raise_of c.first_waiting.result) ∙ (ap is_some c.first_waiting.ensures.exact ∙ found_any (core.waits_for_room c.args.self.now) c.args.self.now.queue)) }
