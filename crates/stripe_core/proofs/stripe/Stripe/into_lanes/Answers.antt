use Rattle.std.proofs.Common.{◌≡◌, ◌∙◌, ◌<◌, ◌++◌, Some, ap, arith, rules, sym, length, map, slice_get}
use Rattle.std.specs.Prelude.{vec_len}
use Rattle.std.proofs.lemmas.Grind.{common_steps}
use Rattle.std.proofs.lemmas.Option.{slice_get_within}
use Rattle.page_model.specs.Core.{Core, RegionSeen, is_home_place, place_passes}
use Rattle.page_model.specs.Setups.{regions}
use Rattle.stripe_core.proofs.Lanes.{seen_at}
use Rattle.stripe_core.proofs.Making.{taken_none, taken_more, taken_all, last_there, places_seen, handed_back}
use Rattle.stripe_core.proofs.stripe.Stripe.into_lanes.Goals as goal

pub loop-region-init : goal.loop-region-init
loop-region-init g c =
    let s = c.self.inside in
    let none = ap length c.self.invariant.2 in
    record {
      so_far = taken_none g.S.Store.seen s.regions.items s.home.items c.self.invariant.2;
      room = omega (arith, none, s.regions.ok.0, s.home.ok.0, c.self.invariant.3);
    }

pub into_lane-requires : goal.into_lane-requires
into_lane-requires g c =
    let s = c.self.inside in
    let left = c.pop.new.self.items in
    let so_far = c.loop-region.invariant.so_far in
    let there : slice_get s.regions.items (length left) ≡ Some c.in-Some.region = ap (λ xs. slice_get xs (length left)) (so_far.regions ∙ ap (λ xs. xs ++ so_far.rest) c.in-Some.ensures.items) ∙ last_there left so_far.rest c.in-Some.region in
    let within = slice_get_within s.regions.items (length left) c.in-Some.region there in
    let as_many = ap (λ (v : Core). regions v.setup) c.self.view_is in
    let lt : length left < regions c.args.self.setup = omega (arith, within, as_many, c.self.invariant.1.regions) in
    let home = ap (λ (v : Core). place_passes is_home_place (slice_get v.regions (length left))) c.self.view_is ∙ c.requires.home (length left) lt in
    record { home = ap (place_passes is_home_place) (sym (seen_at g.S.Store.seen s.regions.items (length left) c.in-Some.region there)) ∙ home }

pub push_reserved-requires : goal.push_reserved-requires
push_reserved-requires g c = omega (arith, c.loop-region.invariant.room, c.in-Some.ensures.cases)

pub loop-region-preserved : goal.loop-region-preserved
loop-region-preserved g c =
    let so_far = taken_more g.S.Store.seen c.self.inside.regions.items c.loop-region.regions.items c.pop.new.self.items c.loop-region.home.items c.in-Some.region c.into_lane.result c.loop-region.invariant.so_far c.in-Some.ensures.items c.into_lane.ensures.lane in
    record {
      so_far = rw c.push_reserved.ensures.items so_far;
      room = omega (arith, c.loop-region.invariant.room, c.in-Some.ensures.cases, c.push_reserved.ensures.len, c.push_reserved.ensures.capacity);
    }

pub returns-clause-lanes : goal.returns-clause-lanes
returns-clause-lanes g c =
    let s = c.self.inside in
    let none : vec_len c.loop-region.regions ≡ 0 = first_of (search rules, grind (arith, common_steps)) in
    let empty : length c.loop-region.regions.items ≡ 0 = omega (arith, none, c.loop-region.regions.ok.0) in
    let all = taken_all g.S.Store.seen s.regions.items c.loop-region.regions.items c.loop-region.home.items c.loop-region.invariant.so_far empty in
    rw (c.from_vec.ensures.items, c.reverse.ensures.items) (all ∙ (sym (places_seen g.S.Store.seen s.regions.items) ∙ ap (λ (v : Core). map (λ (x : RegionSeen). x.place) v.regions) c.self.view_is))

pub returns-clause-stands : goal.returns-clause-stands
returns-clause-stands g c = λ h st r lane is.
    c.service_knows.ensures.like h c.args.self r (g.S.Store.seen lane) st (handed_back g.S.Store.seen c.args.self c.from_vec.result.items r lane (returns-clause-lanes g c) is)
