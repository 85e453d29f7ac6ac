use Rattle.std.proofs.Common.{◌≡◌, ◌∙◌, ◌∷◌, ◌++◌, [], length, ap}
use Rattle.core_bench.proofs.Regions.{lanes_more, no_lanes}
use Rattle.core_bench.proofs.hand.Hand.new.Goals as goal

pub with_regions-requires-clause-lanes : goal.with_regions-requires-clause-lanes
with_regions-requires-clause-lanes g c =
    let none : c.reserve.new.self.items ≡ [] = c.reserve.ensures.items ∙ c.new-lanes.ensures.items in
    lanes_more g.S.Store.seen _ _ c.reserve.new.self.items c.put.new.self.items c.args.lane 0 (no_lanes g.S.Store.seen _ _ _ none) c.put.ensures.items (ap length none) c.requires.lane
