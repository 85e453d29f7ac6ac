use Rattle.std.proofs.Common.{◌≡◌, ◌++◌, map, reverse}
use Rattle.std.specs.Prelude.{vec_len}
use Rattle.worked_cases.proofs.Planned.{fail_origin, mem_origin}
use Rattle.worked_cases.proofs.serial.planned_row.Given as goal

abbrev pub invariant-lanes : goal.invariant-lanes
invariant-lanes l = map fail_origin l.planned.items ++ map mem_origin (reverse l.lanes.items) ≡ map mem_origin l.fn.row.items

abbrev pub decreases-lanes : goal.decreases-lanes
decreases-lanes l = vec_len l.lanes
