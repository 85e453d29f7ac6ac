use Rattle.std.proofs.Common.{◌≡◌, ◌∙◌, ◌+◌, ◌<◌, List, length, sym, ap, subst, arith, get_or-set_same, get_or-set_other}
use Rattle.std.specs.Prelude.{slice_set}
use Rattle.std.proofs.lemmas.List.{length-map}
use Rattle.index_lists.specs.Lists.{pushed}
use Rattle.index_lists.specs.declared.place.Place.{Place}
use Rattle.index_lists.specs.Orders.{OrderSeen}
use Rattle.index_lists.specs.InsideOrders.{no_place, groups_in, IsGrouped}
use Rattle.index_lists.proofs.Ordered.{restamped, out_of_groups, out_of_marked, grouped_marked, grouped_unmarked, seen_pushed}
use Rattle.index_lists.proofs.grouped.GroupedOrder.push_back.Goals as goal

pub push_back-requires-2-clause-fresh : goal.push_back-requires-2-clause-fresh
push_back-requires-2-clause-fresh c = out_of_groups _ _ _ _ _ _ c.self.invariant c.args.number (rw (← c.self.view_is) at c.requires.fresh)

pub push_back-requires-then-mark-clause-fresh : goal.push_back-requires-then-mark-clause-fresh
push_back-requires-then-mark-clause-fresh c = out_of_marked _ _ _ _ _ _ c.self.invariant c.args.number (rw (← c.self.view_is) at c.requires.fresh)

as_many : (places new : List Place) → groups_in new ≡ groups_in places → length new ≡ length places
as_many places new e = sym (length-map new (λ (p : Place). p.group)) ∙ (ap length e ∙ length-map places (λ (p : Place). p.group))

pub invariant_of-self : goal.invariant_of-self
invariant_of-self c =
    let s = c.self.inside in
    let places = c.next_stamp-stamp.new.places.items in
    let n = c.args.number in
    let place : Place = record { stamp = c.next_stamp-stamp.result; group = c.args.group; marked = c.args.mark } in
    let here = restamped _ _ _ _ _ _ c.self.invariant places c.next_stamp-stamp.result c.next_stamp-stamp.ensures.rising c.next_stamp-stamp.ensures.below in
    let within : n < length s.places.items = rw (← c.self.view_is) at c.requires.within in
    let group : c.args.group < s.many = rw (← c.self.view_is) at c.requires.group in
    let many = as_many s.places.items places c.next_stamp-stamp.ensures.groups in
    let after = grouped_marked _ _ _ _ _ _ here c.args.group n c.args.mark (slice_set places n place) group within (rw (← c.self.view_is) at c.requires.fresh)
    (λ x differs. ap (λ (p : Place). p.stamp) (get_or-set_other places n x place no_place differs)) (ap (λ (p : Place). p.stamp) (get_or-set_same places n place no_place (omega arith))) c.if-mark.true in
    let seen = seen_pushed s.order s.places.items places s.many n place c.self.invariant.one c.next_stamp-stamp.ensures.groups c.next_stamp-stamp.ensures.marks in
    rw (c.push_back-then-mark.ensures.pushed, c.push_back-2.ensures.pushed, c.push_back.ensures.pushed)
    (subst (λ (o : OrderSeen). IsGrouped o (pushed s.order 0 n) (pushed s.groups c.args.group n) (pushed s.marked c.args.group n) (slice_set places n place) (c.next_stamp-stamp.result + 1)) (sym seen) after)

pub invariant_of-self-else-mark : goal.invariant_of-self-else-mark
invariant_of-self-else-mark c =
    let s = c.self.inside in
    let places = c.next_stamp-stamp.new.places.items in
    let n = c.args.number in
    let place : Place = record { stamp = c.next_stamp-stamp.result; group = c.args.group; marked = c.args.mark } in
    let here = restamped _ _ _ _ _ _ c.self.invariant places c.next_stamp-stamp.result c.next_stamp-stamp.ensures.rising c.next_stamp-stamp.ensures.below in
    let within : n < length s.places.items = rw (← c.self.view_is) at c.requires.within in
    let group : c.args.group < s.many = rw (← c.self.view_is) at c.requires.group in
    let many = as_many s.places.items places c.next_stamp-stamp.ensures.groups in
    let after = grouped_unmarked _ _ _ _ _ _ here c.args.group n c.args.mark (slice_set places n place) group within (rw (← c.self.view_is) at c.requires.fresh)
    (λ x differs. ap (λ (p : Place). p.stamp) (get_or-set_other places n x place no_place differs)) (ap (λ (p : Place). p.stamp) (get_or-set_same places n place no_place (omega arith))) c.if-mark.false in
    let seen = seen_pushed s.order s.places.items places s.many n place c.self.invariant.one c.next_stamp-stamp.ensures.groups c.next_stamp-stamp.ensures.marks in
    rw (c.push_back-2.ensures.pushed, c.push_back.ensures.pushed)
    (subst (λ (o : OrderSeen). IsGrouped o (pushed s.order 0 n) (pushed s.groups c.args.group n) s.marked (slice_set places n place) (c.next_stamp-stamp.result + 1)) (sym seen) after)

pub returns-then-mark : goal.returns-then-mark
returns-then-mark c =
    let s = c.self.inside in
    let place : Place = record { stamp = c.next_stamp-stamp.result; group = c.args.group; marked = c.args.mark } in
    let seen = seen_pushed s.order s.places.items c.next_stamp-stamp.new.places.items s.many c.args.number place c.self.invariant.one c.next_stamp-stamp.ensures.groups c.next_stamp-stamp.ensures.marks in
    record { appended = rw (← c.self.view_is, c.push_back.ensures.pushed) seen }

pub returns-else-mark : goal.returns-else-mark
returns-else-mark c =
    let s = c.self.inside in
    let place : Place = record { stamp = c.next_stamp-stamp.result; group = c.args.group; marked = c.args.mark } in
    let seen = seen_pushed s.order s.places.items c.next_stamp-stamp.new.places.items s.many c.args.number place c.self.invariant.one c.next_stamp-stamp.ensures.groups c.next_stamp-stamp.ensures.marks in
    record { appended = rw (← c.self.view_is, c.push_back.ensures.pushed) seen }
