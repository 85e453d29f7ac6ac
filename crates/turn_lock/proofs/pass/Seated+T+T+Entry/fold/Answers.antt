use Rattle.std.proofs.Common.{rules, ap, ◌∙◌}
use Rattle.turn_lock.proofs.Parting.{folds, learns}
use Rattle.turn_lock.proofs.Passes.{is_out}
use Rattle.turn_lock.proofs.pass.Seated+T+T+Entry.fold.Goals as goal

pub join_seat-requires : goal.join_seat-requires
join_seat-requires g c =
    let out = is_out c.other.inside.seat.me.0.turn c.other.invariant.settled (ap (λ p. p.inside) c.other.view_is ∙ c.requires.other.1) in
    (search rules, search rules, search rules, search rules, folds g.T.Stands.stands g.T.Stands.fixed _ c.history_laws.ensures _ _ _ _ c.self.invariant.live (ap (λ p. p.number) c.self.view_is ∙ c.requires.first) c.other.invariant.live out)

pub load-requires : goal.load-requires
load-requires g c = (search rules, search rules, learns g.T.Stands.stands g.T.Stands.fixed _ _ _ _ (search rules))
