use Rattle.std.proofs.Common.{◌≡◌, ◌++◌, take, drop, map}
use Rattle.file_store.specs.FailingLists.{counted}
use Rattle.file_store.proofs.mem_folder.strikes.Given as goal

abbrev pub invariant-loop-each : goal.invariant-loop-each
invariant-loop-each l = l.failing ≡ map (counted l.call l.path) (take l.each-index l.fn.failing) ++ drop l.each-index l.fn.failing
