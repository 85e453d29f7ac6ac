use Rattle.std.proofs.Common.{◌≡◌, map, take}
use Rattle.sparse_store.specs.SparseLanes.{count_of_all}
use Rattle.sparse_store.proofs.lane.SparseLane.count.Given as goal

abbrev pub invariant-loop-part : goal.invariant-loop-part
invariant-loop-part g l = l.count ≡ count_of_all (map g.P.Part.seen (take l.part-index l.part-items))
