use Rattle.workload_text.proofs.RegionLists.{size_at-read}
use Rattle.workload_text.proofs.commands.size_at.Goals as goal

pub returns : goal.returns
returns c = size_at-read c.args.maps.now c.args.i c.index-maps-i.result c.requires
