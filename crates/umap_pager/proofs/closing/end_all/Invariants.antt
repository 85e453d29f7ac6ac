use Rattle.std.proofs.Common.{◌≡◌, ◌+◌, ◌≤◌}
use Rattle.std.specs.Prelude.{reverse, vec_len, vec_capacity}
use Rattle.umap_pager.specs.Ended.{counts_over}
use Rattle.umap_pager.proofs.Ending.{Ending}
use Rattle.umap_pager.proofs.closing.end_all.Given as goal

abbrev pub decreases-stripes : goal.decreases-stripes
decreases-stripes g l = vec_len l.locks

abbrev pub invariant-stripes : goal.invariant-stripes
invariant-stripes g l = record {
  ending : Ending g.J.Journal.has_noted g.J.Journal.made_with g.S.Store.seen l.initial.locks.items l.initial.passes.items l.initial.lanes.items l.initial.journals.items l.initial.stripes.items l.locks.items l.passes.items l.lanes.items l.journals.items l.stripes.items;
  lanes_room : vec_len l.lanes + vec_len l.locks ≤ vec_capacity l.lanes;
  journals_room : vec_len l.journals + vec_len l.locks ≤ vec_capacity l.journals;
  stripes_room : vec_len l.stripes + vec_len l.locks ≤ vec_capacity l.stripes;
  counts : l.counts ≡ counts_over (reverse l.stripes.items);
}
