use Rattle.region_lanes.proofs.Distinct.{lanes_distinct}
use Rattle.region_lanes.proofs.laws.lanes_have_parts_of_their_own.Goals as goal

pub returns : goal.returns
returns c = lanes_distinct
