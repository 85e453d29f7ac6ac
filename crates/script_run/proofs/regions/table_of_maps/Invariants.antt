use Rattle.std.proofs.Common.{◌≡◌, [], map, take, drop}
use Rattle.script_run.specs.RegionRules.{named_region, region_refusal}
use Rattle.script_run.proofs.regions.table_of_maps.Given as goal

abbrev pub invariant-loop-i : goal.invariant-loop-i
invariant-loop-i l = record {
  table : l.table ≡ record { page_size = l.page_size; regions = take l.i (map named_region l.maps) };
  rest : region_refusal l.page_size [] (map named_region l.maps) l.lines ≡ region_refusal l.page_size (take l.i (map named_region l.maps)) (drop l.i (map named_region l.maps)) (drop l.i l.lines);
}
