use Rattle.region_lanes.proofs.Origins.{same_parts}
use Rattle.region_lanes.proofs.laws.same_lanes_have_the_same_parts.Goals as goal

pub returns : goal.returns
returns c = same_parts
