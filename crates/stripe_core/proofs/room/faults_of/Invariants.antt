use Rattle.std.proofs.Common.{◌≡◌, ◌≤◌, length, map, take}
use Rattle.std.specs.Prelude.{vec_capacity}
use Rattle.stripe_core.specs.InsideMade.{no_faults}
use Rattle.stripe_core.specs.InsideReadFaults.{AreShares, ReadFaultsSeen}
use Rattle.stripe_core.proofs.room.faults_of.Given as goal

abbrev pub invariant-loop-shape : goal.invariant-loop-shape
invariant-loop-shape l = record {
  none : map (λ (f : ReadFaultsSeen). f.numbers) l.faults.items ≡ map no_faults (take l.shape-index l.config.shapes.items);
  shares : AreShares l.config l.faults.items;
  many : length l.faults.items ≡ l.shape-index;
  room : length l.config.shapes.items ≤ vec_capacity l.faults;
}
