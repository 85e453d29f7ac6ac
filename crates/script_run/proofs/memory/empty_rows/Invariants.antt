use Rattle.std.proofs.Common.{◌≡◌, ◌-◌, ◌+◌, ◌≤◌, [], length, replicate}
use Rattle.script_run.specs.Contents.{rows_in}
use Rattle.script_run.proofs.memory.empty_rows.Given as goal

abbrev pub invariant-stripes : goal.invariant-stripes
invariant-stripes l = record {
  rows : rows_in l.rows.items ≡ replicate (length l.rows.items) [];
  room : l.stripes ≤ l.rows.spare + length l.rows.items;
  within : length l.rows.items ≤ l.stripes;
}

abbrev pub decreases-stripes : goal.decreases-stripes
decreases-stripes l = l.stripes - length l.rows.items
