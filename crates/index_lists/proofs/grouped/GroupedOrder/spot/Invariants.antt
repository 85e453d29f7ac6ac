use Rattle.std.proofs.Common.{◌≡◌, ◌<◌, ℕ, Some}
use Rattle.std.specs.Prelude.{IfSome}
use Rattle.std.specs.List.{slice_get}
use Rattle.index_lists.specs.Orders.{group_of, mark_of}
use Rattle.index_lists.specs.InsideOrders.{members}
use Rattle.index_lists.proofs.Spots.{IsWalked}
use Rattle.index_lists.proofs.grouped.GroupedOrder.spot.Given as goal

abbrev pub invariant-loop : goal.invariant-loop
invariant-loop l = record {
  left : IfSome l.before (λ n. n < l.self.numbers);
  right : IfSome l.behind (λ n. n < l.self.numbers);
  walked : (place : ℕ) → slice_get (members l.self (group_of l.self l.number)) place ≡ Some l.number
      → IsWalked (mark_of l.self) (members l.self (group_of l.self l.number)) place l.counter l.before l.behind;
}
