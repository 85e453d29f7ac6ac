use Rattle.workload_text.proofs.RegionLists.{writable_at-read}
use Rattle.workload_text.proofs.commands.writable_at.Goals as goal

pub returns : goal.returns
returns c = writable_at-read c.args.maps.now c.args.i c.index-maps-i.result c.requires
