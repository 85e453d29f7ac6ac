use Rattle.std.proofs.Common.{arith}
use Rattle.file_store.specs.FailingLists.{counted_in}
use Rattle.file_store.proofs.CountedLists.{map_more}
use Rattle.file_store.proofs.mem_part.strikes.Goals as goal

pub loop-each-preserved : goal.loop-each-preserved
loop-each-preserved c = map_more (counted_in c.args.call) c.args.failing.now c.loop-each.failing c.loop-each.each-index c.count.new.self _ (omega (arith, c.loop-each-test.true)) c.loop-each.invariant c.count.ensures
