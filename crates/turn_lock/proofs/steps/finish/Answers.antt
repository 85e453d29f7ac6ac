use Rattle.std.proofs.Common.{rules, ◌∷◌, Some, ap, sym, subst, ◌∙◌}
use Rattle.atomic_table.specs.Table.{rest}
use Rattle.turn_lock.specs.InsideViews.{given_view}
use Rattle.turn_lock.proofs.Holds.{gives_turn}
use Rattle.turn_lock.proofs.steps.finish.Goals as goal

-- `exchange` changed what the slot has, and nothing else of the seat
pub fetch_add-requires : goal.fetch_add-requires
fetch_add-requires g c =
    let same = c.exchange-left.ensures.3 in
    let inside = c.requires.inside in
    let x = c.args.value in
    let es = g.G.Choice.entries in (
      search rules,
      search rules,
      gives_turn g.T.Stands.stands g.T.Stands.fixed _ c.history_laws.ensures _ _ _ inside.0 x es (search rules) (ap (λ m. m.0.live) same ∙ c.requires.live) (ap (λ m. m.0.turn) same ∙ inside.1)
          (ap (λ m. m.1) same ∙ ap (λ l. (0, Some x) ∷ rest l) inside.2) c.requires.few
          (subst (λ v. g.T.Stands.stands (given_view v es).seen x) (sym (ap (λ m. m.0) same)) c.requires.stands)
          c.requires.fixed,
    )
