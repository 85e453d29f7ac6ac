use Rattle.std.proofs.Common.{◌≡◌, ◌*◌, length}
use Rattle.store_trait.proofs.Joins.{Shows}
use Rattle.store_trait.proofs.split.joined.Given as goal

abbrev pub invariant-loop-page : goal.invariant-loop-page
invariant-loop-page l = record {
  len : length l.bytes.items ≡ l.page * l.size;
  shows : Shows l.page l.lanes.items l.bytes.items;
}
