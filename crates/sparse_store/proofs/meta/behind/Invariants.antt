use Rattle.std.proofs.Common.{◌≡◌, ◌≤◌, take, length}
use Rattle.sparse_store.proofs.meta.behind.Given as goal

-- the two are alike so far
abbrev pub invariant-loop-n : goal.invariant-loop-n
invariant-loop-n l = record {
  within : l.n ≤ length l.bytes;
  alike : take l.n l.bytes ≡ take l.n l.label;
}
