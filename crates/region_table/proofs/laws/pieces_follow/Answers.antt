use Rattle.region_table.proofs.Covering.{covers_range}
use Rattle.region_table.proofs.Following.{pieces_follow}
use Rattle.region_table.proofs.laws.pieces_follow.Goals as goal

pub returns : goal.returns
returns c = pieces_follow covers_range
