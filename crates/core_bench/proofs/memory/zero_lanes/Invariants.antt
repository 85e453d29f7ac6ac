use Rattle.std.proofs.Common.{◌≡◌, ◌≤◌, ◌+◌, length}
use Rattle.store_trait.specs.MemLanes.{lane_seen}
use Rattle.core_bench.specs.Hands.{AreMemoryLanes}
use Rattle.core_bench.proofs.memory.zero_lanes.Given as goal

abbrev pub invariant-loop-region : goal.invariant-loop-region
invariant-loop-region l = record {
  count : length l.lanes.items ≡ l.region;
  room : l.regions ≤ l.lanes.spare + l.region;
  lanes : AreMemoryLanes lane_seen l.pages l.layout.page_size l.lanes.items;
}
