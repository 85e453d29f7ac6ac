use Rattle.std.proofs.Common.{◌+◌, ◌≤◌}
use Rattle.std.specs.Prelude.{vec_len, vec_capacity}
use Rattle.stripe_core.proofs.Making.{MadeSoFar}
use Rattle.stripe_core.proofs.room.regions_of.Given as goal

abbrev pub decreases-loop-lane : goal.decreases-loop-lane
decreases-loop-lane g l = vec_len l.lanes

abbrev pub invariant-loop-lane : goal.invariant-loop-lane
invariant-loop-lane g l = record {
  so_far : MadeSoFar l.initial.lanes.items l.lanes.items l.initial.faults.items l.faults.items l.regions.items;
  room : vec_len l.regions + vec_len l.lanes ≤ vec_capacity l.regions;
  home : vec_len l.initial.lanes ≤ vec_capacity l.lanes;
}
