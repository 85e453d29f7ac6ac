use Rattle.std.proofs.Common.{◌∙◌, true, sym, subst, refl, arith}
use Rattle.std.specs.Prelude.{slice_set}
use Rattle.index_lists.specs.declared.place.Place.{Place}
use Rattle.index_lists.specs.Orders.{OrderSeen, group_of}
use Rattle.index_lists.specs.InsideOrders.{order_seen, put_at, IsGrouped}
use Rattle.index_lists.proofs.Ordered.{member_within, member_counted, read_mark, read_group, mark_same, mark_given, unmarked_out, spot_stands, own_place, stamps_kept, seen_marked}
use Rattle.index_lists.proofs.grouped.GroupedOrder.mark.Goals as goal

pub index-requires : goal.index-requires
index-requires c =
    let within = member_within _ _ _ _ _ _ c.self.invariant c.args.number (rw (← c.self.view_is) at c.requires.member) in
    let long = c.self.inside.places.ok.0 in
    omega arith

pub returns-then-marked : goal.returns-then-marked
returns-then-marked c =
    let s = c.self.inside in
    let within = member_within _ _ _ _ _ _ c.self.invariant c.args.number (rw (← c.self.view_is) at c.requires.member) in
    let mark = read_mark s.order s.places.items s.many c.args.number c.index.result.now within c.index.ensures in
    record { marked = rw (← c.self.view_is) (mark_same (order_seen s.order s.places.items s.many) c.args.number true (rw c.self.invariant.sizes.1 within) (mark ∙ c.if-marked.true)) }

pub put-requires-clause-list : goal.put-requires-clause-list
put-requires-clause-list c =
    let s = c.self.inside in
    let there = rw (← c.self.view_is) at c.requires.member in
    let within = member_within _ _ _ _ _ _ c.self.invariant c.args.number there in
    let group = read_group s.order s.places.items s.many c.args.number c.index.result.now within c.index.ensures in
    let below = (c.self.invariant.kept c.args.number (member_counted _ _ _ _ _ _ c.self.invariant c.args.number there)).group in
    let many = c.self.invariant.marks.many in
    omega arith

pub put-requires-clause-within : goal.put-requires-clause-within
put-requires-clause-within c =
    let within = member_within _ _ _ _ _ _ c.self.invariant c.args.number (rw (← c.self.view_is) at c.requires.member) in
    let numbers = c.self.invariant.mark_numbers in
    omega arith

pub put-requires-clause-fresh : goal.put-requires-clause-fresh
put-requires-clause-fresh c =
    let s = c.self.inside in
    let within = member_within _ _ _ _ _ _ c.self.invariant c.args.number (rw (← c.self.view_is) at c.requires.member) in
    let mark = read_mark s.order s.places.items s.many c.args.number c.index.result.now within c.index.ensures in
    unmarked_out _ _ _ _ _ _ c.self.invariant c.args.number (mark ∙ c.if-marked.false)

pub put-requires-clause-other : goal.put-requires-clause-other
put-requires-clause-other c =
    spot_stands _ _ _ _ _ _ c.args.number c.spot-spot.result c.self.invariant (rw (← c.self.view_is) at c.requires.member) (rw (← c.self.view_is) at c.spot-spot.ensures.spot)

pub index_mut-requires : goal.index_mut-requires
index_mut-requires c =
    let within = member_within _ _ _ _ _ _ c.self.invariant c.args.number (rw (← c.self.view_is) at c.requires.member) in
    let long = c.self.inside.places.ok.0 in
    omega arith

pub invariant_of-self : goal.invariant_of-self
invariant_of-self c =
    let s = c.self.inside in
    let n = c.args.number in
    let places = s.places.items in
    let o : OrderSeen = order_seen s.order places s.many in
    let old = c.index_mut.result.now in
    let there = rw (← c.self.view_is) at c.requires.member in
    let within = member_within _ _ _ _ _ _ c.self.invariant n there in
    let mark = read_mark s.order places s.many n c.index.result.now within c.index.ensures in
    let group = read_group s.order places s.many n c.index.result.now within c.index.ensures in
    let own = own_place o n there in
    let new : Place = record old { marked = true } in
    let given = mark_given _ _ _ _ _ _ c.self.invariant n true (slice_set places n new) within (stamps_kept places n old true within c.index_mut.ensures.value) own.0 c.spot-spot.result refl (mark ∙ c.if-marked.false) (member_counted _ _ _ _ _ _ c.self.invariant n there) own.1 (rw (← c.self.view_is) at c.spot-spot.ensures.spot) in
    let seen = seen_marked s.order places s.many n old true within c.index_mut.ensures.value in
    rw (c.put.ensures.put, ← group) (subst (λ (x : OrderSeen). IsGrouped x s.order s.groups (put_at s.marked (group_of o n) n c.spot-spot.result) (slice_set places n new) s.next) (sym seen) given)

pub returns : goal.returns
returns c =
    let s = c.self.inside in
    let within = member_within _ _ _ _ _ _ c.self.invariant c.args.number (rw (← c.self.view_is) at c.requires.member) in
    record { marked = rw (← c.self.view_is) (seen_marked s.order s.places.items s.many c.args.number c.index_mut.result.now true within c.index_mut.ensures.value) }
