use Rattle.script_run.proofs.RegionRules.{seen_are, same_count}
use Rattle.script_run.proofs.Zeros.{regions_are}
use Rattle.script_run.proofs.laws.regions_are_maps.Goals as goal

pub returns : goal.returns
returns c = record { regions = regions_are; seen = seen_are; numbered = same_count }
