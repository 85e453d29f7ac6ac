use Rattle.std.proofs.Common.{◌≡◌, ◌∙◌, ◌==◌, ◌&&◌, Some, not, false, sym, subst, find}
use Rattle.std.proofs.lemmas.Bool.{eqb-true, false_from_ne_true}
use Rattle.index_lists.specs.InsideOrders.{order_seen}
use Rattle.index_lists.specs.Orders.{OrderSeen, marked_in}
use Rattle.index_lists.proofs.Ordered.{but_other, but_next, found_below}
use Rattle.index_lists.proofs.Parts.{find_both_none}
use Rattle.index_lists.proofs.grouped.GroupedOrder.first_marked_but.Goals as goal

pub returns-in_err-first-clause-exact : goal.returns-in_err-first-clause-exact
returns-in_err-first-clause-exact c =
    c.from_residual.ensures ∙ find_both_none (marked_in c.args.self.now c.args.group) (λ number. not (number == c.args.but)) c.args.self.now.order c.in_err-first.ensures.exact

pub returns-then-first-but-clause-exact : goal.returns-then-first-but-clause-exact
returns-then-first-but-clause-exact c =
    let o : OrderSeen = order_seen c.self.inside.order c.self.inside.places.items c.self.inside.many in
    let is : find (marked_in o c.args.group) o.order ≡ Some c.in_ok-first.first = sym (rw (← c.self.view_is) at c.in_ok-first.ensures.exact) in
    let lt = found_below _ _ _ _ _ _ c.self.invariant c.args.group c.in_ok-first.first is in
    let next = but_next _ _ _ _ _ _ c.self.invariant c.args.group c.in_ok-first.first c.next.result lt is c.next.ensures.exact in
    rw (← c.self.view_is) (subst (λ but. c.next.result ≡ find (λ y. marked_in o c.args.group y && not (y == but)) o.order) c.if-first-but.true next)

pub returns-else-first-but-clause-exact : goal.returns-else-first-but-clause-exact
returns-else-first-but-clause-exact c =
    let o : OrderSeen = order_seen c.self.inside.order c.self.inside.places.items c.self.inside.many in
    let is : find (marked_in o c.args.group) o.order ≡ Some c.in_ok-first.first = sym (rw (← c.self.view_is) at c.in_ok-first.ensures.exact) in
    let other : (c.in_ok-first.first == c.args.but) ≡ false = false_from_ne_true (c.in_ok-first.first == c.args.but) (λ e. c.if-first-but.false (eqb-true c.in_ok-first.first c.args.but e)) in
    rw (← c.self.view_is) (but_other _ _ _ _ _ _ c.self.invariant c.args.group c.args.but c.in_ok-first.first is other)
