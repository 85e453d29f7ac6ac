use Rattle.core_bench.proofs.Regions.{all_writable}
use Rattle.core_bench.proofs.hand.Hand.make_room.Goals as goal

pub make_room-requires-clause-writable : goal.make_room-requires-clause-writable
make_room-requires-clause-writable g c = all_writable _ _ _ c.self.invariant.1
