use Rattle.region_lanes.proofs.Ends.{start_tells}
use Rattle.region_lanes.proofs.laws.opened_lanes_tell_the_file.Goals as goal

pub returns : goal.returns
returns c = start_tells
