use Rattle.region_lanes.proofs.NoneOut.{none_out}
use Rattle.region_lanes.proofs.laws.no_part_stays_out.Goals as goal

pub returns : goal.returns
returns c = none_out
