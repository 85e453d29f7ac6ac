use Rattle.std.proofs.Common.{arith, sym, ap, ◌∙◌}
use Rattle.std.specs.Prelude.{reverse}
use Rattle.umap_pager.specs.Ended.{counts_over}
use Rattle.umap_pager.specs.InsideEnded.{EndedStripe}
use Rattle.umap_pager.proofs.Ending.{one_more, ending_none, ending_more, lock_at, pass_at}
use Rattle.umap_pager.proofs.closing.end_all.Goals as goal

pub stripes-init : goal.stripes-init
stripes-init g c = record {
  ending = ending_none g.J.Journal.has_noted g.J.Journal.made_with g.S.Store.seen c.args.locks.items c.args.passes.items c.args.lanes.items c.args.journals.items c.args.stripes.items c.requires.may.count;
  lanes_room = c.requires.lanes;
  journals_room = c.requires.journals;
  stripes_room = c.requires.stripes;
  counts = c.none-counts.ensures ∙ ap (λ xs. counts_over (reverse xs)) (sym c.requires.none);
}

pub end_stripe-own-requires-clause-own : goal.end_stripe-own-requires-clause-own
end_stripe-own-requires-clause-own g c =
    let e = c.stripes.invariant.ending in
    let l = lock_at g.J.Journal.has_noted g.J.Journal.made_with g.S.Store.seen c.args.locks.items c.stripes.locks.items c.pop.new.self.items c.args.passes.items c.stripes.passes.items c.pop-in-Some.new.self.items c.args.lanes.items c.stripes.lanes.items c.args.journals.items c.stripes.journals.items c.args.stripes.items c.stripes.stripes.items c.in-Some.lock c.in-Some-pop.pass e c.in-Some.ensures.items c.in-Some-pop.ensures.items in
    let p = pass_at g.J.Journal.has_noted g.J.Journal.made_with g.S.Store.seen c.args.locks.items c.stripes.locks.items c.pop.new.self.items c.args.passes.items c.stripes.passes.items c.pop-in-Some.new.self.items c.args.lanes.items c.stripes.lanes.items c.args.journals.items c.stripes.journals.items c.args.stripes.items c.stripes.stripes.items c.in-Some.lock c.in-Some-pop.pass e c.in-Some.ensures.items c.in-Some-pop.ensures.items in
    c.requires.may.own _ c.in-Some.lock c.in-Some-pop.pass l p

pub end_stripe-own-requires-clause-may : goal.end_stripe-own-requires-clause-may
end_stripe-own-requires-clause-may g c =
    let e = c.stripes.invariant.ending in
    let p = pass_at g.J.Journal.has_noted g.J.Journal.made_with g.S.Store.seen c.args.locks.items c.stripes.locks.items c.pop.new.self.items c.args.passes.items c.stripes.passes.items c.pop-in-Some.new.self.items c.args.lanes.items c.stripes.lanes.items c.args.journals.items c.stripes.journals.items c.args.stripes.items c.stripes.stripes.items c.in-Some.lock c.in-Some-pop.pass e c.in-Some.ensures.items c.in-Some-pop.ensures.items in
    c.requires.may.may _ c.in-Some-pop.pass p

pub stripes-preserved : goal.stripes-preserved
stripes-preserved g c =
    let i = c.stripes.invariant in
    let made = c.end_stripe-own.result in
    let row : EndedStripe _ _ = record { lanes = made.0; journal = made.1; closed = made.2 } in
    let more = ending_more g.J.Journal.has_noted g.J.Journal.made_with g.S.Store.seen c.args.locks.items c.stripes.locks.items c.pop.new.self.items c.args.passes.items c.stripes.passes.items c.pop-in-Some.new.self.items c.args.lanes.items c.stripes.lanes.items c.args.journals.items c.stripes.journals.items c.args.stripes.items c.stripes.stripes.items c.in-Some.lock c.in-Some-pop.pass i.ending c.in-Some.ensures.items c.in-Some-pop.ensures.items row c.end_stripe-own.ensures.ended in
    record {
      ending = rw (c.push_reserved.ensures.items, c.push_reserved-in-Some.ensures.items, c.push_reserved-in-Some-2.ensures.items) more;
      lanes_room = omega (arith, i.lanes_room, c.in-Some.ensures.cases, c.push_reserved.ensures.len, c.push_reserved.ensures.capacity);
      journals_room = omega (arith, i.journals_room, c.in-Some.ensures.cases, c.push_reserved-in-Some.ensures.len, c.push_reserved-in-Some.ensures.capacity);
      stripes_room = omega (arith, i.stripes_room, c.in-Some.ensures.cases, c.push_reserved-in-Some-2.ensures.len, c.push_reserved-in-Some-2.ensures.capacity);
      counts = one_more c.stripes.stripes.items c.push_reserved-in-Some-2.new.self.items made.2 made.3 c.stripes.counts c.both-counts.result c.push_reserved-in-Some-2.ensures.items i.counts c.end_stripe-own.ensures.counts c.both-counts.ensures;
    }

pub returns-clause-counts : goal.returns-clause-counts
returns-clause-counts g c = c.stripes.invariant.counts ∙ ap counts_over (sym c.reverse-3.ensures.items) ∙ ap counts_over (sym c.from_vec-3.ensures.items)
