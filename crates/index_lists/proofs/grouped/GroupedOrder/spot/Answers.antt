use Rattle.std.proofs.Common.{◌<◌, ℕ, Option, Some, None, sym, subst, arith}
use Rattle.std.specs.Prelude.{IfSome}
use Rattle.std.proofs.lemmas.Option.{slice_get_within}
use Rattle.index_lists.specs.Orders.{group_of, mark_of}
use Rattle.index_lists.specs.InsideOrders.{members}
use Rattle.index_lists.proofs.Ordered.{member_within, walk_begins, walk_goes, walk_ends, spot_right}
use Rattle.index_lists.proofs.Spots.{IsWalked, walked_front, walked_back, walked_left}
use Rattle.index_lists.proofs.grouped.GroupedOrder.spot.Goals as goal

pub previous-before-requires : goal.previous-before-requires
previous-before-requires c =
    let within = member_within _ _ _ _ _ _ c.self.invariant c.args.number (rw (← c.self.view_is) at c.requires.member) in
    let numbers = c.self.invariant.group_numbers in
    record { within = omega arith }

pub next-behind-requires : goal.next-behind-requires
next-behind-requires c =
    let within = member_within _ _ _ _ _ _ c.self.invariant c.args.number (rw (← c.self.view_is) at c.requires.member) in
    let numbers = c.self.invariant.group_numbers in
    record { within = omega arith }

pub loop-init : goal.loop-init
loop-init c = rw (← c.self.view_is) (record {
  left = subst (λ (k : ℕ). IfSome c.previous-before.result (λ n. n < k)) c.self.invariant.group_numbers c.previous-before.ensures.within;
  right = subst (λ (k : ℕ). IfSome c.next-behind.result (λ n. n < k)) c.self.invariant.group_numbers c.next-behind.ensures.within;
  walked = walk_begins _ _ _ _ _ _ c.self.invariant c.args.number (rw (← c.self.view_is) at c.requires.member) c.previous-before.result c.next-behind.result c.previous-before.ensures.exact c.next-behind.ensures.exact;
})

pub returns-in_default : goal.returns-in_default
returns-in_default c =
    let o = c.args.self.now in
    let list = members o (group_of o c.args.number) in
    record {
      spot = λ place here.
          let w : IsWalked (mark_of o) list place c.loop.counter None c.loop.behind = subst (λ (x : Option ℕ). IsWalked (mark_of o) list place c.loop.counter x c.loop.behind) c.in_default.is (c.loop.invariant.walked place here) in
          let lt = slice_get_within list place c.args.number here in
          walked_front (mark_of o) list place c.loop.counter c.loop.behind (omega arith) w;
    }

pub returns-then-is_marked : goal.returns-then-is_marked
returns-then-is_marked c =
    let o = c.args.self.now in
    let list = members o (group_of o c.args.number) in
    record {
      spot = λ place here.
          let w : IsWalked (mark_of o) list place c.loop.counter (Some c.in-Some.left) c.loop.behind = subst (λ (x : Option ℕ). IsWalked (mark_of o) list place c.loop.counter x c.loop.behind) c.in-Some.is (c.loop.invariant.walked place here) in
          walked_left (mark_of o) list place c.loop.counter c.in-Some.left c.loop.behind w (sym c.if-is_marked.ensures.exact);
    }

pub returns-in_default-behind : goal.returns-in_default-behind
returns-in_default-behind c =
    let o = c.args.self.now in
    let list = members o (group_of o c.args.number) in
    record {
      spot = λ place here.
          let w : IsWalked (mark_of o) list place c.loop.counter c.loop.before None = subst (λ (x : Option ℕ). IsWalked (mark_of o) list place c.loop.counter c.loop.before x) c.in_default-behind.is (c.loop.invariant.walked place here) in
          walked_back (mark_of o) list place c.loop.counter c.loop.before w;
    }

pub returns-then-is_marked-2 : goal.returns-then-is_marked-2
returns-then-is_marked-2 c =
    record {
      spot = λ place here.
          rw (← c.self.view_is)
          (spot_right _ _ _ _ _ _ c.self.invariant c.args.number (rw (← c.self.view_is) at c.requires.member) place c.loop.counter c.in-Some-behind.right c.loop.before c.spot_before.result (rw (← c.self.view_is) at c.requires.unmarked) (rw (← c.self.view_is) at here)
          (rw (← c.self.view_is) at (rw c.in-Some-behind.is at (c.loop.invariant.walked place here))) (sym (rw (← c.self.view_is) at c.if-is_marked-2.ensures.exact)) (rw (← c.self.view_is) at c.spot_before.ensures.spot));
    }

pub loop-preserved : goal.loop-preserved
loop-preserved c = rw (← c.self.view_is) (record {
  left = subst (λ (k : ℕ). IfSome c.previous-before-in-loop.result (λ n. n < k)) c.self.invariant.group_numbers c.previous-before-in-loop.ensures.within;
  right = subst (λ (k : ℕ). IfSome c.next-behind-in-loop.result (λ n. n < k)) c.self.invariant.group_numbers c.next-behind-in-loop.ensures.within;
  walked = λ place here.
      walk_goes _ _ _ _ _ _ c.self.invariant c.args.number (rw (← c.self.view_is) at c.requires.member) place c.loop.counter c.in-Some.left c.in-Some-behind.right c.previous-before-in-loop.result c.next-behind-in-loop.result
      (rw (c.in-Some.is, c.in-Some-behind.is, ← c.self.view_is) at (c.loop.invariant.walked place (rw (← c.self.view_is) here)))
      (sym (rw (← c.self.view_is) at c.if-is_marked.ensures.exact)) (sym (rw (← c.self.view_is) at c.if-is_marked-2.ensures.exact)) c.previous-before-in-loop.ensures.exact c.next-behind-in-loop.ensures.exact;
})

pub returns : goal.returns
returns c = record {
  spot = rw (← c.self.view_is) (λ place here.
      let w = rw (← c.self.view_is) at (c.loop.invariant.walked place (rw (← c.self.view_is) here)) in
      let few = w.few in
      absurd (walk_ends _ _ _ _ _ _ c.self.invariant c.args.number (rw (← c.self.view_is) at c.requires.member) place c.loop.counter here few (omega arith)));
}
