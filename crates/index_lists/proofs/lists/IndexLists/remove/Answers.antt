use Rattle.std.proofs.Common.{◌≡◌, true, ap, arith, List, ℕ}
use Rattle.std.specs.List.{list_any}
use Rattle.index_lists.specs.Lists.{ListsSeen, has, removed}
use Rattle.index_lists.specs.InsideNodes.{lists_in, IsTied}
use Rattle.index_lists.proofs.Seen.{lists_seen}
use Rattle.index_lists.proofs.Tied.{neighbours, removal_read, tied_seen}
use Rattle.index_lists.proofs.lists.IndexLists.remove.Goals as goal

pub index-requires : goal.index-requires
index-requires c =
    let there : list_any (has c.args.number) (lists_in c.self.inside.nodes.items c.self.inside.numbers) ≡ true = rw (← c.self.view_is) at c.requires.stands in
    let below = (neighbours c.self.inside.nodes.items c.self.inside.numbers c.args.number _ c.self.invariant there).1 in
    let size = c.self.invariant.size in
    let long = c.self.inside.nodes.ok.0 in
    omega arith

pub join-requires-clause-previous : goal.join-requires-clause-previous
join-requires-clause-previous c = (removal_read c.self.inside.nodes.items c.self.inside.numbers c.args.number _ _ c.self.invariant (rw (← c.self.view_is) at c.requires.stands) c.index.ensures).0.p_in

pub join-requires-clause-next : goal.join-requires-clause-next
join-requires-clause-next c = (removal_read c.self.inside.nodes.items c.self.inside.numbers c.args.number _ _ c.self.invariant (rw (← c.self.view_is) at c.requires.stands) c.index.ensures).0.q_in

tied : (c : goal.After-join) → IsTied c.join.new.nodes.items c.self.inside.numbers (removed (record { numbers = c.self.inside.numbers; lists = lists_in c.self.inside.nodes.items c.self.inside.numbers }) c.args.number).lists
tied c = rw c.join.ensures.joined (removal_read c.self.inside.nodes.items c.self.inside.numbers c.args.number _ _ c.self.invariant (rw (← c.self.view_is) at c.requires.stands) c.index.ensures).1

pub invariant_of-self : goal.invariant_of-self
invariant_of-self c = tied_seen _ _ _ (tied c)

pub returns : goal.returns
returns c =
    let seen = lists_seen _ _ _ (tied c) in
    let numbers = c.self.inside.numbers in
    record { removed = rw (← c.self.view_is) (ap (λ (lists : List (List ℕ)). let seen : ListsSeen = record { numbers = numbers; lists = lists } in seen) seen) }
