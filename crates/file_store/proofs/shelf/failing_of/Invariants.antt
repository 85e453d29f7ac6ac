use Rattle.std.proofs.Common.{◌≡◌, ◌++◌, drop}
use Rattle.file_store.specs.FailingLists.{listed_for}
use Rattle.file_store.proofs.shelf.failing_of.Given as goal

abbrev pub invariant-loop-each : goal.invariant-loop-each
invariant-loop-each l = l.own.items ++ listed_for l.path (drop l.each-index l.failing) ≡ listed_for l.path l.failing
