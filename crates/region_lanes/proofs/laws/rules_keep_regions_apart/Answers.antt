use Rattle.region_lanes.proofs.Rules.{rules_apart}
use Rattle.region_lanes.proofs.laws.rules_keep_regions_apart.Goals as goal

pub returns : goal.returns
returns c = rules_apart
