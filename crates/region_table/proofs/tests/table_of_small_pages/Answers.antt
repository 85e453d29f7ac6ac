use Rattle.std.proofs.Common.{refl}
use Rattle.region_table.proofs.tests.table_of_small_pages.Goals as goal

pub new-requires : goal.new-requires
unfolding lib.Count.ones
new-requires c = refl
