use Rattle.std.proofs.Common.{◌≡◌, ◌≤◌, length}
use Rattle.std.specs.Prelude.{vec_capacity}
use Rattle.umap_pager.proofs.Dividing.{SplitSoFar}
use Rattle.umap_pager.proofs.passes.Passes.split.Given as goal

abbrev pub invariant-loop-stripe : goal.invariant-loop-stripe
invariant-loop-stripe g l = record {
  many : length l.self-inside.passes.items ≡ length l.fn.self.passes;
  scratch : length l.self-inside.scratch.items ≡ l.fn.self.scratch;
  long : length l.passes.items ≡ l.stripe;
  room : l.count ≤ vec_capacity l.passes;
  split : SplitSoFar l.fn.self.passes l.self-inside.passes.items l.passes.items l.stripe;
}
