use Rattle.std.proofs.Common.{◌≡◌, ◌++◌, ◌≤◌, [], length}
use Rattle.region_table.specs.Cuts.{rest_of}
use Rattle.page_model.specs.Pieces.{saves, bytes_in}
use Rattle.locked_stripe.specs.Calls.{for_store}
use Rattle.umap_pager.specs.Passes.{FitTo}
use Rattle.umap_pager.specs.Ranges.{AccessesDone}
use Rattle.umap_pager.specs.Shared.{page_stripe, range_pieces}
use Rattle.umap_pager.proofs.pager.Pager.store_pieces.Given as goal

abbrev pub invariant-loop-piece : goal.invariant-loop-piece
invariant-loop-piece g l = record {
  fit : FitTo l.self l.p;
  within : l.done ≤ length l.bytes;
  pieces : range_pieces l.self l.region l.off (length l.bytes) ≡ l.yielded ++ rest_of l.piece-iterator;
  bytes : bytes_in l.yielded ≡ l.done;
  done : AccessesDone (page_stripe l.self) for_store l.initial.p l.p (saves l.yielded l.bytes);
  none : l.yielded ≡ [] → l.p ≡ l.initial.p;
}
