use Rattle.std.proofs.Common.{◌≤◌}
use Rattle.std.specs.Prelude.{vec_capacity}
use Rattle.index_lists.proofs.Tied.{AreAlone}
use Rattle.index_lists.proofs.lists.IndexLists.new.Given as goal

abbrev pub invariant-loop-at : goal.invariant-loop-at
invariant-loop-at l = record { alone : AreAlone l.nodes.items l.at; room : l.ends ≤ vec_capacity l.nodes }
