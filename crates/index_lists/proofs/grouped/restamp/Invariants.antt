use Rattle.std.proofs.Common.{◌≡◌, ◌<◌, ℕ, length}
use Rattle.std.specs.Prelude.{IfSome, slice_index_or}
use Rattle.std.specs.List.{slice_get}
use Rattle.index_lists.specs.Lists.{list_at}
use Rattle.index_lists.specs.InsideOrders.{place_of, groups_in, marks_in}
use Rattle.index_lists.proofs.grouped.restamp.Given as goal

abbrev pub invariant-loop-stamp : goal.invariant-loop-stamp
invariant-loop-stamp l = record {
  here : l.at ≡ slice_get (list_at l.order 0) l.stamp;
  within : IfSome l.at (λ n. n < l.order.numbers);
  groups : groups_in l.places.items ≡ groups_in l.fn.places.items;
  marks : marks_in l.places.items ≡ marks_in l.fn.places.items;
  many : length l.places.items ≡ length l.fn.places.items;
  end_is : l.end ≡ length l.fn.places.items;
  dealt : (i : ℕ) → i < l.stamp → i < length (list_at l.order 0) → (place_of l.places.items (slice_index_or (list_at l.order 0) i 0)).stamp ≡ i;
}
