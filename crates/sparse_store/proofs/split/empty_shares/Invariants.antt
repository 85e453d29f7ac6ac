use Rattle.std.proofs.Common.{◌≤◌, ◌+◌}
use Rattle.sparse_store.specs.InsideSplits.{AreEmptyShares}
use Rattle.sparse_store.proofs.split.empty_shares.Given as goal

abbrev pub invariant-loop-stripe : goal.invariant-loop-stripe
invariant-loop-stripe g l = record {
  shares : AreEmptyShares l.dir.items l.all l.room l._stripe l.shares.items;
  room : l.stripes ≤ l.shares.spare + l._stripe;
}
