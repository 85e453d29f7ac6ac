use Rattle.std.proofs.Common.{◌≡◌, ◌∙◌, ◌<◌, true, false, ap, arith, List, ℕ}
use Rattle.std.specs.List.{list_any}
use Rattle.index_lists.specs.declared.node.Node.{Node}
use Rattle.index_lists.specs.Lists.{ListsSeen, has, inserted}
use Rattle.index_lists.specs.InsideNodes.{lists_in, next_at, joined, IsTied}
use Rattle.index_lists.proofs.Links.{length-joined}
use Rattle.index_lists.proofs.Paths.{put_between}
use Rattle.index_lists.proofs.Seen.{lists_seen}
use Rattle.index_lists.proofs.Tied.{node_read, neighbours, gap_behind, tied_inserted, tied_seen}
use Rattle.index_lists.proofs.lists.IndexLists.insert_behind.Goals as goal

pub index-requires : goal.index-requires
index-requires c =
    let there : list_any (has c.args.place) (lists_in c.self.inside.nodes.items c.self.inside.numbers) ≡ true = rw (← c.self.view_is) at c.requires.place in
    let below = (neighbours c.self.inside.nodes.items c.self.inside.numbers c.args.place _ c.self.invariant there).1 in
    let size = c.self.invariant.size in
    let long = c.self.inside.nodes.ok.0 in
    omega arith

pub join-requires-2-clause-next : goal.join-requires-2-clause-next
join-requires-2-clause-next c =
    let nodes = c.self.inside.nodes.items in
    let numbers = c.self.inside.numbers in
    let there : list_any (has c.args.place) (lists_in nodes numbers) ≡ true = rw (← c.self.view_is) at c.requires.place in
    let below : c.args.number < numbers = rw (← c.self.view_is) at c.requires.within in
    let g = gap_behind nodes numbers c.args.place c.args.number (lists_in nodes numbers) c.self.invariant there below in
    let node = node_read nodes c.args.place c.index.result.now g.p_in c.index.ensures in
    rw (c.join.ensures.joined, length-joined nodes _ _, ap (λ (n : Node). n.next) node) g.q_in

put : (c : goal.After-join-2) → c.join-2.new.nodes.items ≡ put_between c.self.inside.nodes.items c.args.place c.args.number (next_at c.self.inside.nodes.items c.args.place)
put c =
    let nodes = c.self.inside.nodes.items in
    let numbers = c.self.inside.numbers in
    let there : list_any (has c.args.place) (lists_in nodes numbers) ≡ true = rw (← c.self.view_is) at c.requires.place in
    let below : c.args.number < numbers = rw (← c.self.view_is) at c.requires.within in
    let g = gap_behind nodes numbers c.args.place c.args.number (lists_in nodes numbers) c.self.invariant there below in
    let node = node_read nodes c.args.place c.index.result.now g.p_in c.index.ensures in
    c.join-2.ensures.joined
    ∙ (ap (λ (ns : List Node). joined ns c.args.number c.index.result.now.next) c.join.ensures.joined
    ∙ ap (λ (n : Node). put_between nodes c.args.place c.args.number n.next) node)

tied : (c : goal.After-join-2) → IsTied c.join-2.new.nodes.items c.self.inside.numbers (inserted (record { numbers = c.self.inside.numbers; lists = lists_in c.self.inside.nodes.items c.self.inside.numbers }) c.args.place c.args.number).lists
tied c =
    let nodes = c.self.inside.nodes.items in
    let numbers = c.self.inside.numbers in
    let there : list_any (has c.args.place) (lists_in nodes numbers) ≡ true = rw (← c.self.view_is) at c.requires.place in
    let below : c.args.number < numbers = rw (← c.self.view_is) at c.requires.within in
    let fresh : list_any (has c.args.number) (lists_in nodes numbers) ≡ false = rw (← c.self.view_is) at c.requires.fresh in
    rw (put c) (tied_inserted nodes numbers c.args.place c.args.number (lists_in nodes numbers) c.self.invariant there below fresh)

pub invariant_of-self : goal.invariant_of-self
invariant_of-self c = tied_seen _ _ _ (tied c)

pub returns : goal.returns
returns c =
    let seen = lists_seen _ _ _ (tied c) in
    let numbers = c.self.inside.numbers in
    record { inserted = rw (← c.self.view_is) (ap (λ (lists : List (List ℕ)). let seen : ListsSeen = record { numbers = numbers; lists = lists } in seen) seen) }

pub join-requires-clause-previous : goal.join-requires-clause-previous
join-requires-clause-previous c =
    let there : list_any (has c.args.place) (lists_in c.self.inside.nodes.items c.self.inside.numbers) ≡ true = rw (← c.self.view_is) at c.requires.place in
    let below = (neighbours c.self.inside.nodes.items c.self.inside.numbers c.args.place _ c.self.invariant there).1 in
    let size = c.self.invariant.size in
    omega arith
