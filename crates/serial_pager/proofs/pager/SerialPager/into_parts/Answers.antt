use Rattle.std.proofs.Common.{◌∙◌, ◌++◌, [], length, map, ap, arith, subst, append-nil}
use Rattle.std.specs.Prelude.{reverse}
use Rattle.serial_pager.specs.Pagers.{rows_by, rows_of}
use Rattle.serial_pager.specs.InsideSound.{HandsBack}
use Rattle.serial_pager.proofs.Opening.{rows_of_stripes}
use Rattle.serial_pager.proofs.pager.SerialPager.into_parts.Goals as goal

pub unmade-lanes-requires-clause-rest : goal.unmade-lanes-requires-clause-rest
unmade-lanes-requires-clause-rest g c = λ s x e. (c.self.invariant.0.each s x e).rest

pub unmade-lanes-requires-clause-lanes : goal.unmade-lanes-requires-clause-lanes
unmade-lanes-requires-clause-lanes g c = let none = ap length c.self.invariant.3 in omega (arith, none, c.self.inside.home.ok.0, c.self.invariant.5, c.self.inside.stripes.ok.0)

pub unmade-lanes-requires-clause-journals : goal.unmade-lanes-requires-clause-journals
unmade-lanes-requires-clause-journals g c = let none = ap length c.self.invariant.4 in omega (arith, none, c.self.inside.noted.ok.0, c.self.invariant.6, c.self.inside.stripes.ok.0)

pub returns-clause-lanes : goal.returns-clause-lanes
returns-clause-lanes g c =
    let ins = c.self.inside in
    let rows = rows_of g.S.Store.seen c.unmade-lanes.result.lanes in
    let none : HandsBack ins.stripes.items [] rows = subst (λ rs. HandsBack ins.stripes.items rs rows) (ap (rows_by g.S.Store.seen) c.self.invariant.3) c.unmade-lanes.ensures.lanes in
    rows_of_stripes c.args.self rows (subst (λ xs. HandsBack xs [] rows) (ap (λ v. v.stripes) c.self.view_is) none)

pub returns-clause-journals : goal.returns-clause-journals
returns-clause-journals g c =
    c.unmade-lanes.ensures.journals
    ∙ ap (λ js. map (λ x. x.journal) c.self.inside.stripes.items ++ reverse js) c.self.invariant.4
    ∙ append-nil (map (λ x. x.journal) c.self.inside.stripes.items)
    ∙ ap (λ v. map (λ x. x.journal) v.stripes) c.self.view_is
