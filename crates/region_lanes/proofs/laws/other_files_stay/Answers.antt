use Rattle.region_lanes.proofs.Files.{other_file}
use Rattle.region_lanes.proofs.laws.other_files_stay.Goals as goal

pub returns : goal.returns
returns c = other_file
