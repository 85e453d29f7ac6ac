use Rattle.std.proofs.Common.{◌≡◌, length}
use Rattle.std.specs.Prelude.{vec_len}
use Rattle.umap_pager.proofs.Dividing.{FoldSoFar}
use Rattle.umap_pager.proofs.passes.Passes.fold.Given as goal

abbrev pub invariant-stripes : goal.invariant-stripes
invariant-stripes g l = record {
  many : length l.self-inside.passes.items ≡ length l.fn.self.passes;
  scratch : length l.self-inside.scratch.items ≡ l.fn.self.scratch;
  fold : FoldSoFar l.fn.self.passes l.fn.other.passes l.self-inside.passes.items l.passes.items;
}

abbrev pub decreases-stripes : goal.decreases-stripes
decreases-stripes g l = vec_len l.passes
