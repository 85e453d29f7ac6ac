use Rattle.std.proofs.Common.{◌∙◌, ◌≤◌, ◌<◌, Some, length, sym, arith}
use Rattle.index_lists.specs.InsideOrders.{place_of}
use Rattle.index_lists.proofs.Ordered.{read_place}
use Rattle.index_lists.proofs.Rising.{older_first, older_second, none_first, none_second}
use Rattle.index_lists.proofs.grouped.GroupedOrder.older.Goals as goal

pub returns-then-index-clause-first : goal.returns-then-index-clause-first
returns-then-index-clause-first c =
    λ p q e f.
    let places = c.self.inside.places.items in
    let a_in : c.in-Some-Some.a < length places = rw (← c.self.view_is) at (rw c.in-Some-Some.is-0 at c.requires.one) in
    let b_in : c.in-Some-Some.b < length places = rw (← c.self.view_is) at (rw c.in-Some-Some.is-1 at c.requires.other) in
    let a = read_place places c.in-Some-Some.a c.index-in-Some-Some.result.now a_in c.index-in-Some-Some.ensures in
    let b = read_place places c.in-Some-Some.b c.index.result.now b_in c.index.ensures in
    let less = c.if-index.true in
    let le : (place_of places c.in-Some-Some.b).stamp ≤ (place_of places c.in-Some-Some.a).stamp = rw (← a, ← b) (omega (arith, less)) in
    rw (← c.self.view_is) (older_second places p q _ c.in-Some-Some.a c.in-Some-Some.b c.self.invariant.rising (rw (← c.self.view_is) at (sym c.in-Some-Some.is-0 ∙ e)) (rw (← c.self.view_is) at (sym c.in-Some-Some.is-1 ∙ f)) le)

pub returns-else-index-clause-first : goal.returns-else-index-clause-first
returns-else-index-clause-first c =
    λ p q e f.
    let places = c.self.inside.places.items in
    let a_in : c.in-Some-Some.a < length places = rw (← c.self.view_is) at (rw c.in-Some-Some.is-0 at c.requires.one) in
    let b_in : c.in-Some-Some.b < length places = rw (← c.self.view_is) at (rw c.in-Some-Some.is-1 at c.requires.other) in
    let a = read_place places c.in-Some-Some.a c.index-in-Some-Some.result.now a_in c.index-in-Some-Some.ensures in
    let b = read_place places c.in-Some-Some.b c.index.result.now b_in c.index.ensures in
    let le : (place_of places c.in-Some-Some.a).stamp ≤ (place_of places c.in-Some-Some.b).stamp = rw (← a, ← b) c.if-index.false in
    rw (← c.self.view_is) (older_first places p q _ c.in-Some-Some.a c.in-Some-Some.b c.self.invariant.rising (rw (← c.self.view_is) at (sym c.in-Some-Some.is-0 ∙ e)) (rw (← c.self.view_is) at (sym c.in-Some-Some.is-1 ∙ f)) le)

pub returns-in-Some-None-clause-first : goal.returns-in-Some-None-clause-first
returns-in-Some-None-clause-first c = λ p q e f. none_second p q _ (Some c.in-Some-None.a) (sym c.in-Some-None.is-0 ∙ e) (sym c.in-Some-None.is-1 ∙ f)

pub returns-in-None-default-clause-first : goal.returns-in-None-default-clause-first
returns-in-None-default-clause-first c = λ p q e f. none_first p q _ c.args.other (sym c.in-None-default.is-0 ∙ e) f
