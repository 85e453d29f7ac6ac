use Rattle.std.proofs.Common.{◌∙◌, sym, subst, arith}
use Rattle.index_lists.specs.Lists.{removed}
use Rattle.index_lists.specs.Orders.{OrderSeen}
use Rattle.index_lists.specs.InsideOrders.{IsGrouped}
use Rattle.index_lists.proofs.Ordered.{in_groups, in_marked, member_within, left_marked_one, left_unmarked_one, seen_left, read_mark}
use Rattle.index_lists.proofs.grouped.GroupedOrder.remove.Goals as goal

pub remove-requires-2 : goal.remove-requires-2
remove-requires-2 c = record { stands = in_groups _ _ _ _ _ _ c.self.invariant c.args.number (rw (← c.self.view_is) at c.requires.member) }

pub index-requires : goal.index-requires
index-requires c =
    let within = member_within _ _ _ _ _ _ c.self.invariant c.args.number (rw (← c.self.view_is) at c.requires.member) in
    let long = c.self.inside.places.ok.0 in
    omega arith

pub remove-requires-then-index : goal.remove-requires-then-index
remove-requires-then-index c =
    let s = c.self.inside in
    let there = rw (← c.self.view_is) at c.requires.member in
    let within = member_within _ _ _ _ _ _ c.self.invariant c.args.number there in
    let mark = read_mark s.order s.places.items s.many c.args.number c.index.result.now within c.index.ensures in
    record { stands = in_marked _ _ _ _ _ _ c.self.invariant c.args.number there (mark ∙ c.if-index.true) }

pub invariant_of-self : goal.invariant_of-self
invariant_of-self c =
    let s = c.self.inside in
    let n = c.args.number in
    let seen = seen_left s.order s.places.items s.many n c.self.invariant.one in
    rw (c.remove-then-index.ensures.removed, c.remove-2.ensures.removed, c.remove.ensures.removed)
    (subst (λ (o : OrderSeen). IsGrouped o (removed s.order n) (removed s.groups n) (removed s.marked n) s.places.items s.next) (sym seen) (left_marked_one _ _ _ _ _ _ c.self.invariant n))

pub invariant_of-self-else-index : goal.invariant_of-self-else-index
invariant_of-self-else-index c =
    let s = c.self.inside in
    let n = c.args.number in
    let there = rw (← c.self.view_is) at c.requires.member in
    let within = member_within _ _ _ _ _ _ c.self.invariant n there in
    let mark = read_mark s.order s.places.items s.many n c.index.result.now within c.index.ensures in
    let seen = seen_left s.order s.places.items s.many n c.self.invariant.one in
    rw (c.remove-2.ensures.removed, c.remove.ensures.removed)
    (subst (λ (o : OrderSeen). IsGrouped o (removed s.order n) (removed s.groups n) s.marked s.places.items s.next) (sym seen) (left_unmarked_one _ _ _ _ _ _ c.self.invariant n (mark ∙ c.if-index.false)))
