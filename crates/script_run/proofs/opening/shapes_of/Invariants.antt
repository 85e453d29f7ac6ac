use Rattle.std.proofs.Common.{◌≡◌, ◌≤◌, ◌+◌, take}
use Rattle.region_table.specs.Regions.{shapes_of}
use Rattle.script_run.proofs.opening.shapes_of.Given as goal

abbrev pub invariant-loop-region : goal.invariant-loop-region
invariant-loop-region l = record {
  shapes : l.shapes.items ≡ take l.region (shapes_of l.table);
  room : l.count ≤ l.shapes.spare + l.region;
}
