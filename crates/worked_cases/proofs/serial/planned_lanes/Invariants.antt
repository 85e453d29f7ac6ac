use Rattle.std.proofs.Common.{◌≡◌, ◌++◌, map, reverse}
use Rattle.std.specs.Prelude.{vec_len}
use Rattle.worked_cases.proofs.Planned.{fail_origins, mem_origins}
use Rattle.worked_cases.proofs.serial.planned_lanes.Given as goal

abbrev pub invariant-rows : goal.invariant-rows
invariant-rows l = map fail_origins l.planned.items ++ map mem_origins (reverse l.rows.items) ≡ map mem_origins l.fn.lanes.stripes.items

abbrev pub decreases-rows : goal.decreases-rows
decreases-rows l = vec_len l.rows
