use Rattle.std.proofs.Common.{rules, ◌∷◌, Some, ap, sym, ◌∙◌}
use Rattle.atomic_table.specs.Table.{rest}
use Rattle.turn_lock.specs.InsideViews.{ticket_of}
use Rattle.turn_lock.proofs.Holds.{looks}
use Rattle.turn_lock.proofs.steps.enter.Goals as goal

pub load-requires : goal.load-requires
load-requires g c =
    let same = c.loop.invariant.1 in
    (search rules, search rules, looks g.T.Stands.stands g.T.Stands.fixed _ c.history_laws.ensures _ _ _ c.args.ticket (ap (λ m. m.0.live) same ∙ c.requires.live) (ap (λ m. m.0.turn) same ∙ c.requires.waits.0))

-- the seat has the slot, with the value in it
pub exchange-requires : goal.exchange-requires
exchange-requires g c =
    let found = c.load.ensures.2.0 (c.if-load-ticket.true ∙ sym (ap (λ m. ticket_of m.0.turn) c.loop.invariant.1 ∙ ap ticket_of c.requires.waits.0)) in
    let e = ap (λ m. m.1) found.2 in
    (search rules, (Some found.1, e ∙ ap (λ l. (0, Some found.1) ∷ rest l) (sym e)))
