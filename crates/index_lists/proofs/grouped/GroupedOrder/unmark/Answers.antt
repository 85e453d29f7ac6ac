use Rattle.std.proofs.Common.{◌∙◌, false, sym, subst, refl, arith}
use Rattle.std.specs.Prelude.{slice_set}
use Rattle.index_lists.specs.Lists.{removed}
use Rattle.index_lists.specs.declared.place.Place.{Place}
use Rattle.index_lists.specs.Orders.{OrderSeen}
use Rattle.index_lists.specs.InsideOrders.{order_seen, IsGrouped}
use Rattle.index_lists.proofs.Ordered.{member_within, in_marked, read_mark, mark_same, mark_taken, stamps_kept, seen_marked}
use Rattle.index_lists.proofs.grouped.GroupedOrder.unmark.Goals as goal

pub index-requires : goal.index-requires
index-requires c =
    let within = member_within _ _ _ _ _ _ c.self.invariant c.args.number (rw (← c.self.view_is) at c.requires.member) in
    let long = c.self.inside.places.ok.0 in
    omega arith

pub returns-then-not-index : goal.returns-then-not-index
returns-then-not-index c =
    let s = c.self.inside in
    let within = member_within _ _ _ _ _ _ c.self.invariant c.args.number (rw (← c.self.view_is) at c.requires.member) in
    let mark = read_mark s.order s.places.items s.many c.args.number c.index.result.now within c.index.ensures in
    record { unmarked = rw (← c.self.view_is) (mark_same (order_seen s.order s.places.items s.many) c.args.number false (rw c.self.invariant.sizes.1 within) (mark ∙ c.if-not-index.true)) }

pub remove-requires : goal.remove-requires
remove-requires c =
    let s = c.self.inside in
    let there = rw (← c.self.view_is) at c.requires.member in
    let within = member_within _ _ _ _ _ _ c.self.invariant c.args.number there in
    let mark = read_mark s.order s.places.items s.many c.args.number c.index.result.now within c.index.ensures in
    record { stands = in_marked _ _ _ _ _ _ c.self.invariant c.args.number there (mark ∙ c.if-not-index.false) }

pub index_mut-requires : goal.index_mut-requires
index_mut-requires c =
    let within = member_within _ _ _ _ _ _ c.self.invariant c.args.number (rw (← c.self.view_is) at c.requires.member) in
    let long = c.self.inside.places.ok.0 in
    omega arith

pub invariant_of-self : goal.invariant_of-self
invariant_of-self c =
    let s = c.self.inside in
    let n = c.args.number in
    let places = s.places.items in
    let old = c.index_mut.result.now in
    let within = member_within _ _ _ _ _ _ c.self.invariant n (rw (← c.self.view_is) at c.requires.member) in
    let new : Place = record old { marked = false } in
    let taken = mark_taken _ _ _ _ _ _ c.self.invariant n false (slice_set places n new) within (stamps_kept places n old false within c.index_mut.ensures.value) refl in
    let seen = seen_marked s.order places s.many n old false within c.index_mut.ensures.value in
    rw c.remove.ensures.removed (subst (λ (x : OrderSeen). IsGrouped x s.order s.groups (removed s.marked n) (slice_set places n new) s.next) (sym seen) taken)

pub returns : goal.returns
returns c =
    let s = c.self.inside in
    let within = member_within _ _ _ _ _ _ c.self.invariant c.args.number (rw (← c.self.view_is) at c.requires.member) in
    record { unmarked = rw (← c.self.view_is) (seen_marked s.order s.places.items s.many c.args.number c.index_mut.result.now false within c.index_mut.ensures.value) }
