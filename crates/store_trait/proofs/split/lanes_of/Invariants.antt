use Rattle.std.proofs.Common.{◌≡◌, ◌+◌, ◌≤◌, ℕ, length, slice_get, Some}
use Rattle.store_trait.specs.Memory.{memory_origin, share_seen}
use Rattle.store_trait.specs.MemLanes.{lane_seen}
use Rattle.store_trait.specs.declared.mem_lane.MemLane.{MemLane}
use Rattle.store_trait.proofs.split.lanes_of.Given as goal

abbrev pub invariant-loop-stripe : goal.invariant-loop-stripe
invariant-loop-stripe l = record {
  count : length l.lanes.items ≡ l.stripe;
  room : l.stripes ≤ l.lanes.spare + l.stripe;
  each : (s : ℕ) (lane : MemLane) → slice_get l.lanes.items s ≡ Some lane → lane_seen lane ≡ share_seen (memory_origin l.region l.pages l.page_size l.stripes s) l.contents;
}
