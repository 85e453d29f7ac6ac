use Rattle.std.proofs.Common.{sym, ap, ◌∙◌, length, arith}
use Rattle.std.specs.List.{slice_get}
use Rattle.umap_pager.proofs.Ending.{pager_ended}
use Rattle.umap_pager.proofs.pager.Pager.close.Goals as goal

pub end_all-requires-clause-may : goal.end_all-requires-clause-may
end_all-requires-clause-may g c =
    let locks = ap (λ v. v.locks) c.self.view_is in
    let passes = ap (λ v. v.passes) c.p.view_is in
    record {
      count = ap length passes ∙ c.requires.fit.as_many ∙ sym (ap length locks);
      own = λ s lock pass a b. c.requires.fit.each s lock pass (sym (ap (λ ls. slice_get ls s) locks) ∙ a) (sym (ap (λ ps. slice_get ps s) passes) ∙ b);
      may = λ s pass b. c.requires.may s pass (sym (ap (λ ps. slice_get ps s) passes) ∙ b);
    }

pub end_all-requires-clause-lanes : goal.end_all-requires-clause-lanes
end_all-requires-clause-lanes g c =
    let r = c.into_inner-lanes.result in
    omega (arith, r.many_lanes, ap length r.no_lanes, r.lanes.ok.0, c.self.inside.locks.ok.0, c.self.invariant.count, c.self.inside.config.layout.few_stripes)

pub end_all-requires-clause-journals : goal.end_all-requires-clause-journals
end_all-requires-clause-journals g c =
    let r = c.into_inner-lanes.result in
    omega (arith, r.many_journals, ap length r.no_journals, r.journals.ok.0, c.self.inside.locks.ok.0, c.self.invariant.count, c.self.inside.config.layout.few_stripes)

pub end_all-requires-clause-stripes : goal.end_all-requires-clause-stripes
end_all-requires-clause-stripes g c =
    let r = c.into_inner-lanes.result in
    omega (arith, r.many_stripes, ap length r.no_stripes, r.stripes.ok.0, c.self.inside.locks.ok.0, c.self.invariant.count, c.self.inside.config.layout.few_stripes)

pub returns-clause-ended : goal.returns-clause-ended
returns-clause-ended g c =
    let r = c.into_inner-lanes.result in
    pager_ended g.J.Journal.has_noted g.J.Journal.made_with g.S.Store.seen c.args.self c.args.p c.self.inside.locks.items c.p.inside.passes.items r.lanes.items r.journals.items r.stripes.items c.end_all.result.lanes.stripes.items c.end_all.result.journals.items c.end_all.result.stripes.items
    (ap (λ v. v.locks) c.self.view_is) (ap (λ v. v.passes) c.p.view_is) r.no_lanes r.no_journals r.no_stripes c.end_all.ensures.ended
