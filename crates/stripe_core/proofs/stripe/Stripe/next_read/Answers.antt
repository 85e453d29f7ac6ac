use Rattle.std.proofs.Common.{◌∙◌, ap, sym}
use Rattle.std.specs.List.{find, list_any}
use Rattle.std.specs.Option.{option_map}
use Rattle.fault_queue.specs.Queues.{raise_of}
use Rattle.page_model.specs.declared.seen.Next.TheVariants as serve
use Rattle.page_model.specs.Core as core
use Rattle.stripe_core.proofs.Chosen.{read_key, some_key}
use Rattle.stripe_core.proofs.stripe.Stripe.next_read.Goals as goal

pub unreachable-requires : goal.unreachable-requires
unreachable-requires g c =
    let now = c.args.self.now in
    let it = read_key (find (core.is_stale now) now.queue) (find (core.is_servable now) now.queue) (list_any (core.waits_for_room now) now.queue) c.requires.next.0 c.requires.next.1 in
    let none = sym c.first_servable.ensures.exact ∙ ap (option_map raise_of) c.in_default.is in
    let some = it.1 in
    absurd cc

pub returns : goal.returns
returns g c =
    let now = c.args.self.now in
    let it = read_key (find (core.is_stale now) now.queue) (find (core.is_servable now) now.queue) (list_any (core.waits_for_room now) now.queue) c.requires.next.0 c.requires.next.1 in
    let same = some_key _ it.0 (c.in-Some.ensures.exact ∙ it.1) in
    record { is = c.requires.next.1 ∙ ap serve.Read (sym (same ∙ it.2)) }
