use Rattle.std.proofs.Common.{◌≡◌, [], arith, rules}
use Rattle.std.specs.Prelude.{vec_len}
use Rattle.std.proofs.lemmas.Grind.{common_steps}
use Rattle.serial_pager.proofs.Opening.{apart_none, apart_more, apart_all, apart_noted, rest_last, home_lanes, none_left}
use Rattle.serial_pager.proofs.pager.unmade.Goals as goal

pub stripes-init : goal.stripes-init
stripes-init g c = record {
  apart = apart_none g.S.Store.seen c.args.stripes.items c.args.lanes.items c.args.journals.items;
  lanes_room = c.requires.lanes;
  journals_room = c.requires.journals;
}

pub into_parts-own-requires : goal.into_parts-own-requires
into_parts-own-requires g c = let t = c.stripes.invariant.apart in record { rest = rest_last c.args.stripes.items c.stripes.stripes.items c.pop.new.self.items t.back c.in-Some.stripe c.requires.rest t.stripes c.in-Some.ensures.items }

pub push_reserved-requires : goal.push_reserved-requires
push_reserved-requires g c = omega (arith, c.stripes.invariant.lanes_room, c.in-Some.ensures.cases)

pub push_reserved-requires-in-Some : goal.push_reserved-requires-in-Some
push_reserved-requires-in-Some g c = omega (arith, c.stripes.invariant.journals_room, c.in-Some.ensures.cases)

pub stripes-preserved : goal.stripes-preserved
stripes-preserved g c =
    let t = c.stripes.invariant.apart in
    let x = c.in-Some.stripe in
    let rest = rest_last c.args.stripes.items c.stripes.stripes.items c.pop.new.self.items t.back x c.requires.rest t.stripes c.in-Some.ensures.items in
    let e = c.into_parts-own.ensures in
    let row = home_lanes g.S.Store.seen x.core c.into_parts-own.result.0.items rest e.count e.lanes e.stands in
    let more = apart_more g.S.Store.seen c.args.stripes.items c.stripes.stripes.items c.pop.new.self.items c.args.lanes.items c.stripes.lanes.items c.args.journals.items c.stripes.journals.items x c.into_parts-own.result.0 t c.in-Some.ensures.items row in
    record {
      apart = rw (c.push_reserved.ensures.items, c.push_reserved-in-Some.ensures.items, e.journal) more;
      lanes_room = omega (arith, c.stripes.invariant.lanes_room, c.in-Some.ensures.cases, c.push_reserved.ensures.len, c.push_reserved.ensures.capacity);
      journals_room = omega (arith, c.stripes.invariant.journals_room, c.in-Some.ensures.cases, c.push_reserved-in-Some.ensures.len, c.push_reserved-in-Some.ensures.capacity);
    }

pub returns-clause-lanes : goal.returns-clause-lanes
returns-clause-lanes g c =
    let none : vec_len c.stripes.stripes ≡ 0 = first_of (search rules, grind (arith, common_steps)) in
    let empty : c.stripes.stripes.items ≡ [] = none_left c.stripes.stripes.items (omega (arith, none, c.stripes.stripes.ok.0)) in
    rw (c.from_vec.ensures.items, c.reverse.ensures.items) (apart_all g.S.Store.seen c.args.stripes.items c.stripes.stripes.items c.args.lanes.items c.stripes.lanes.items c.args.journals.items c.stripes.journals.items c.stripes.invariant.apart empty)

pub returns-clause-journals : goal.returns-clause-journals
returns-clause-journals g c =
    let none : vec_len c.stripes.stripes ≡ 0 = first_of (search rules, grind (arith, common_steps)) in
    let empty : c.stripes.stripes.items ≡ [] = none_left c.stripes.stripes.items (omega (arith, none, c.stripes.stripes.ok.0)) in
    rw (c.from_vec-2.ensures.items, c.reverse-2.ensures.items) (apart_noted g.S.Store.seen c.args.stripes.items c.stripes.stripes.items c.args.lanes.items c.stripes.lanes.items c.args.journals.items c.stripes.journals.items c.stripes.invariant.apart empty)
