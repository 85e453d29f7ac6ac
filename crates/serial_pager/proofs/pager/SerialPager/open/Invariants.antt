use Rattle.std.proofs.Common.{◌+◌, ◌≤◌}
use Rattle.std.specs.Prelude.{vec_len, vec_capacity}
use Rattle.serial_pager.specs.Pagers.{rows_of}
use Rattle.serial_pager.proofs.Opening.{Making}
use Rattle.serial_pager.proofs.pager.SerialPager.open.Given as goal

abbrev pub invariant-making : goal.invariant-making
invariant-making g l = record {
  making : Making g.S.Store.seen l.fn.config l.config (rows_of g.S.Store.seen l.fn.lanes) l.fn.journals.items l.stripes.items l.home.items l.noted.items;
  stripes_room : vec_len l.stripes + vec_len l.home ≤ vec_capacity l.stripes;
  home_room : vec_len l.stripes + vec_len l.home ≤ vec_capacity l.home;
  noted_room : vec_len l.stripes + vec_len l.noted ≤ vec_capacity l.noted;
}

abbrev pub decreases-making : goal.decreases-making
decreases-making g l = vec_len l.home
