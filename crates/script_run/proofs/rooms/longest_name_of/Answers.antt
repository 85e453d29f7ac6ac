use Rattle.std.proofs.Common.{length, ap, arith}
use Rattle.workload_text.specs.declared.workload.MapLine.{MapLine}
use Rattle.script_run.proofs.RoomsLeft.{longest_more}
use Rattle.script_run.proofs.rooms.longest_name_of.Goals as goal

pub loop-i-preserved : goal.loop-i-preserved
loop-i-preserved c = longest_more c.args.maps.now c.loop-i.i c.index-maps-i.result (omega arith) c.index-maps-i.is c.loop-i.longest c.max-longest.result _ c.loop-i.invariant (omega (arith, c.max-longest.ensures, c.len.ensures, ap (λ (m : MapLine). length m.name.items) c.index-maps-i.is))
