use Rattle.std.proofs.Common.{[], ◌∷◌}
use Rattle.region_table.proofs.Paths.{below_where_begun, below_where_other}
use Rattle.region_table.proofs.region.is_below.Goals as goal

pub returns-then-starts_with : goal.returns-then-starts_with
returns-then-starts_with c =
    below_where_begun c.args.path.now c.args.folder.now (47 ∷ []) c.starts_with.result c.starts_with-then-starts_with.result c.starts_with.ensures.value c.if-starts_with.true
    c.starts_with-then-starts_with.ensures.value

pub returns-else-starts_with : goal.returns-else-starts_with
returns-else-starts_with c = below_where_other c.args.path.now c.args.folder.now (47 ∷ []) c.starts_with.result c.starts_with.ensures.value c.if-starts_with.false
