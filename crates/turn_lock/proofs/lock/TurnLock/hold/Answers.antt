use Rattle.std.proofs.Common.{◌≡◌, ℕ, ◌<◌, ◌*◌, ◌^◌, length, ap, sym, ◌∙◌, subst, arith}
use Rattle.histories.specs.Histories.{calls_of, GoesOn, Others}
use Rattle.turn_lock.proofs.lock.TurnLock.hold.Goals as goal

-- its own entries were the same before, by what always holds of a pass, and are now, by what the look told
pub returns-clause-others : goal.returns-clause-others
returns-clause-others g c =
    let v = c.pass.inside.seat.me.0 in
    let drawn = c.draw-ticket.ensures.view in
    let found = c.enter-value.ensures.view in
    let after = c.enter-value.new.seat.me.0 in
    let others = c.history_laws.ensures.same_calls v.number v.seen found.0 (subst (λ m. GoesOn m.0.seen found.0) drawn found.2.start) (c.pass.invariant.own ∙ sym (subst (λ m. calls_of m.0.number found.0 ≡ m.0.mine) drawn found.2.mine)) in
    let number : v.number ≡ after.number = sym (ap (λ m. m.0.number) found.1 ∙ ap (λ m. m.0.number) drawn) in
    let seen : found.0 ≡ after.seen = sym (ap (λ m. m.0.seen) found.1) in
    subst (λ n. Others n c.args.pass.now.seen after.seen) number
    (subst (λ h. Others v.number h after.seen) (ap (λ p. p.seen) c.pass.view_is) (subst (λ h. Others v.number v.seen h) seen others))

pub returns-clause-small : goal.returns-clause-small
returns-clause-small g c =
    let found = c.enter-value.ensures.view in
    let told = found.2.same c.pass.inside.terms.value (ap (λ m. m.0.terms) c.draw-ticket.ensures.view ∙ c.pass.invariant.told) in
    let most : ℕ = c.pass.inside.terms.value.seats * c.pass.inside.terms.value.holds in
    let few : length found.0 < most = told.1 in
    let small : most < 2 ^ 62 = told.2 in
    let seen = ap (λ m. length m.0.seen) found.1 in
    rw seen (omega arith)
