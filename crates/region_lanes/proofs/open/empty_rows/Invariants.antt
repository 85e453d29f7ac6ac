use Rattle.std.proofs.Common.{◌≡◌, ◌-◌, ◌+◌, ◌≤◌, [], length, replicate}
use Rattle.serial_pager.specs.Pagers.{rows_by}
use Rattle.region_lanes.specs.InsideOpened.{HaveRoom}
use Rattle.region_lanes.proofs.open.empty_rows.Given as goal

abbrev pub invariant-stripes : goal.invariant-stripes
invariant-stripes g l = record {
  rows : rows_by g.S.Store.seen l.rows.items ≡ replicate (length l.rows.items) [];
  have : HaveRoom l.regions l.rows.items;
  room : l.stripes ≤ l.rows.spare + length l.rows.items;
  within : length l.rows.items ≤ l.stripes;
}

abbrev pub decreases-stripes : goal.decreases-stripes
decreases-stripes g l = l.stripes - length l.rows.items
