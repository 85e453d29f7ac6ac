use Rattle.std.proofs.Common.{◌≡◌, ◌≤◌, ◌+◌, ◌<◌, ℕ, Some, take}
use Rattle.std.specs.List.{slice_get}
use Rattle.page_base.specs.declared.keys.RegionShape.{RegionShape}
use Rattle.region_table.specs.Regions.{shapes_of}
use Rattle.umap_pager.proofs.opening.shapes.Given as goal

abbrev pub invariant-loop-region : goal.invariant-loop-region
invariant-loop-region l = record {
  shapes : l.shapes.items ≡ take l.region (shapes_of l.table);
  groups : (r : ℕ) (shape : RegionShape) → r < l.region → slice_get (shapes_of l.table) r ≡ Some shape → 1 ≤ shape.group;
  room : l.count ≤ l.shapes.spare + l.region;
}
