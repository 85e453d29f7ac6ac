use Rattle.region_lanes.proofs.Origins.{same_regions}
use Rattle.region_lanes.proofs.laws.same_lanes_are_of_the_same_regions.Goals as goal

pub returns : goal.returns
returns c = same_regions
