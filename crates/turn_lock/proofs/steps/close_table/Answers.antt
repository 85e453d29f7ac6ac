use Rattle.std.proofs.Common.{◌≡◌, Some, sym, subst, ◌∙◌}
use mathlib.Core.Option.{some-injective}
use Rattle.turn_lock.specs.InsidePlays.{Closes}
use Rattle.turn_lock.proofs.Ends.{closes}
use Rattle.turn_lock.proofs.Endings.{some_one}
use Rattle.turn_lock.proofs.steps.close_table.Goals as goal

pub unreachable-requires : goal.unreachable-requires
unreachable-requires g c =
    let r = c.requires in
    let done = closes g.T.Stands.stands g.T.Stands.fixed c.args.table.shared.key _ c.args.seat.me.0 _ _ r.live r.first r.out r.alone c.close_with-slots.ensures.values.2 in
    c.in_default.not-Some done.0 (some-injective c.take.result (Some done.0) (sym c.take.ensures.value ∙ done.1))

pub returns : goal.returns
returns g c =
    let r = c.requires in
    let done = closes g.T.Stands.stands g.T.Stands.fixed c.args.table.shared.key _ c.args.seat.me.0 _ _ r.live r.first r.out r.alone c.close_with-slots.ensures.values.2 in
    let taken = some-injective c.take.result (Some done.0) (sym c.take.ensures.value ∙ done.1) in
    let same : done.0 ≡ c.in-Some.value = some_one done.0 c.in-Some.value (sym taken ∙ c.in-Some.is) in
    subst (λ x. Closes g.T.Stands.stands g.T.Stands.fixed c.args.table.shared.key c.args.seat.me.0 x) same done.2
