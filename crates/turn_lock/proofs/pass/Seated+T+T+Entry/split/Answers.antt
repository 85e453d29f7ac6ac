use Rattle.std.proofs.Common.{rules, ◌+◌, ◌-◌, ◌≤◌, length, Some, ap, sym, subst, ◌∙◌}
use Rattle.turn_lock.specs.InsideFields.{IsSound}
use Rattle.turn_lock.proofs.Parting.{splits, learns}
use Rattle.turn_lock.proofs.Passes.{same_terms, new_is_sound}
use Rattle.turn_lock.proofs.pass.Seated+T+T+Entry.split.Goals as goal

pub split_seat-seat-requires : goal.split_seat-seat-requires
split_seat-seat-requires g c = (search rules, search rules, splits g.T.Stands.stands g.T.Stands.fixed _ c.history_laws.ensures _ _ c.self.invariant.live (search rules))

pub load-requires : goal.load-requires
load-requires g c = (search rules, search rules, learns g.T.Stands.stands g.T.Stands.fixed _ _ _ _ (search rules))

pub invariant_of-result : goal.invariant_of-result
invariant_of-result g c =
    let whole = c.self.invariant in
    let same = same_terms _ _ c.self.inside.terms.value c.lock.inside.table.shared.key (ap (λ p. p.lock) c.self.view_is ∙ c.requires.own.0 ∙ sym c.lock.view_is) ∙ c.lock.invariant.0 in
    let v = c.self.inside.seat.me.0 in
    let known = c.load.ensures.2 in
    subst (λ k. IsSound c.load.new.seat.me k (c.lock.inside.terms.seats - c.self.inside.spare) 0 0 c.lock.inside.terms.holds) (sym c.of.ensures)
    (new_is_sound v c.load.new.seat.me c.lock.inside.terms c.self.inside.spare c.self.inside.out (whole.told ∙ ap Some same) whole.spare_is
    (subst (λ k. c.self.inside.out + length v.ended + c.self.inside.spare + 1 ≤ k.seats) same whole.fits)
    (search rules) (search rules))
