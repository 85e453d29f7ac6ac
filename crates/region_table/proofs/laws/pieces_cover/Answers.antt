use Rattle.region_table.proofs.Covering.{covers_range}
use Rattle.region_table.proofs.laws.pieces_cover.Goals as goal

pub returns : goal.returns
returns c = covers_range
