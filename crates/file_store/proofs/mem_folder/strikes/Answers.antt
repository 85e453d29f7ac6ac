use Rattle.std.proofs.Common.{arith}
use Rattle.file_store.specs.FailingLists.{counted}
use Rattle.file_store.proofs.CountedLists.{map_more}
use Rattle.file_store.proofs.mem_folder.strikes.Goals as goal

pub loop-each-preserved : goal.loop-each-preserved
loop-each-preserved c = map_more (counted c.args.call c.args.path.now) c.args.failing.now c.loop-each.failing c.loop-each.each-index c.count.new.self _ (omega (arith, c.loop-each-test.true)) c.loop-each.invariant c.count.ensures
