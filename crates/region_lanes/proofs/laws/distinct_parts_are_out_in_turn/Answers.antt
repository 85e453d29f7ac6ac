use Rattle.region_lanes.proofs.NoneOut.{out_in_turn}
use Rattle.region_lanes.proofs.laws.distinct_parts_are_out_in_turn.Goals as goal

pub returns : goal.returns
returns c = out_in_turn
