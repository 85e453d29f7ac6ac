use Rattle.std.proofs.Common.{◌+◌, ◌≤◌}
use Rattle.std.specs.Prelude.{vec_len, vec_capacity}
use Rattle.umap_pager.specs.Ended.{rows_seen}
use Rattle.umap_pager.proofs.Locking.{Opening}
use Rattle.umap_pager.proofs.pager.Pager.open.Given as goal

abbrev pub invariant-making : goal.invariant-making
invariant-making g l = record {
  opening : Opening g.S.Store.seen l.fn.config l.fn.table (rows_seen g.S.Store.seen l.fn.lanes.stripes.items) l.fn.journals.items l.own_config l.locks.items l.passes.items l.home.items l.noted.items;
  locks_room : vec_len l.locks + vec_len l.home ≤ vec_capacity l.locks;
  passes_room : vec_len l.passes + vec_len l.home ≤ vec_capacity l.passes;
  home_room : vec_len l.locks + vec_len l.home ≤ vec_capacity l.home;
  noted_room : vec_len l.locks + vec_len l.noted ≤ vec_capacity l.noted;
}

abbrev pub decreases-making : goal.decreases-making
decreases-making g l = vec_len l.home
