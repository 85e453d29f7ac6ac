use Rattle.std.proofs.Common.{rules, ◌≡◌, ◌≤◌, ◌+◌, ◌∙◌, [], length, sym, ap, arith}
use Rattle.std.proofs.lemmas.List.{length-append}
use Rattle.store_trait.specs.MemLanes.{lane_origin, lane_seen}
use Rattle.store_trait.specs.Memory.{memory_origin}
use Rattle.core_bench.proofs.Regions.{lanes_more, no_lanes}
use Rattle.core_bench.proofs.memory.zero_lanes.Goals as goal

pub loop-region-init : goal.loop-region-init
loop-region-init c =
    let none : c.reserve.new.self.items ≡ [] = c.reserve.ensures.items ∙ c.new-lanes.ensures.items in
    record {
      count = ap length none;
      room = search rules;
      lanes = no_lanes lane_seen _ _ c.reserve.new.self.items none;
    }

pub loop-region-preserved : goal.loop-region-preserved
loop-region-preserved c =
    let i = c.loop-region.invariant in
    let last : lane_origin c.in_ok-lane.lane ≡ memory_origin c.loop-region.region c.args.pages c.args.layout.now.page_size 1 0 = search rules in
    record {
      count = ap length c.put.ensures.items ∙ (length-append c.loop-region.lanes.items _ ∙ ap (λ n. n + 1) i.count);
      room = omega (arith, c.put.ensures.spare, i.room);
      lanes = lanes_more lane_seen _ _ c.loop-region.lanes.items c.put.new.self.items c.in_ok-lane.lane c.loop-region.region i.lanes c.put.ensures.items i.count last;
    }
