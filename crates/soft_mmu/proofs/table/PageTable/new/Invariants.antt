use Rattle.std.proofs.Common.{◌≡◌, ◌≤◌, take, length}
use Rattle.std.specs.Prelude.{vec_capacity}
use Rattle.soft_mmu.specs.Entries.{no_pages}
use Rattle.soft_mmu.proofs.table.PageTable.new.Given as goal

abbrev pub invariant-loop-shape : goal.invariant-loop-shape
invariant-loop-shape l = record {
  absent : l.regions.items ≡ no_pages (take l.shape-index l.shapes.items);
  room : length l.shapes.items ≤ vec_capacity l.regions;
}
