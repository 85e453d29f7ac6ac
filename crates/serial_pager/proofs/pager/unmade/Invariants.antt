use Rattle.std.proofs.Common.{◌+◌, ◌≤◌}
use Rattle.std.specs.Prelude.{vec_len, vec_capacity}
use Rattle.serial_pager.proofs.Opening.{TakenApart}
use Rattle.serial_pager.proofs.pager.unmade.Given as goal

abbrev pub decreases-stripes : goal.decreases-stripes
decreases-stripes g l = vec_len l.stripes

abbrev pub invariant-stripes : goal.invariant-stripes
invariant-stripes g l = record {
  apart : TakenApart g.S.Store.seen l.initial.stripes.items l.stripes.items l.initial.lanes.items l.lanes.items l.initial.journals.items l.journals.items;
  lanes_room : vec_len l.lanes + vec_len l.stripes ≤ vec_capacity l.lanes;
  journals_room : vec_len l.journals + vec_len l.stripes ≤ vec_capacity l.journals;
}
