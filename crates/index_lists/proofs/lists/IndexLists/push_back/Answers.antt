use Rattle.std.proofs.Common.{◌≡◌, ◌∙◌, ◌+◌, ◌<◌, false, length, ap, List, ℕ}
use Rattle.std.specs.List.{list_any}
use Rattle.index_lists.specs.declared.node.Node.{Node}
use Rattle.index_lists.specs.Lists.{ListsSeen, has, pushed}
use Rattle.index_lists.specs.InsideNodes.{lists_in, previous_at, joined, IsTied}
use Rattle.index_lists.proofs.Paths.{put_between}
use Rattle.index_lists.proofs.Seen.{lists_seen}
use Rattle.index_lists.proofs.Tied.{node_read, gap, tied_pushed, tied_seen}
use Rattle.index_lists.proofs.lists.IndexLists.push_back.Goals as goal

pub join-requires-clause-previous : goal.join-requires-clause-previous
join-requires-clause-previous c =
    let nodes = c.self.inside.nodes.items in
    let numbers = c.self.inside.numbers in
    let within : c.args.list < length (lists_in nodes numbers) = rw (← c.self.view_is) at c.requires.list in
    let below : c.args.number < numbers = rw (← c.self.view_is) at c.requires.within in
    let g = gap nodes numbers c.args.number c.args.list (lists_in nodes numbers) c.self.invariant within below in
    let node = node_read nodes (numbers + c.args.list) c.index.result.now g.q_in c.index.ensures in
    rw (ap (λ (n : Node). n.previous) node) g.p_in

put : (c : goal.After-join-2) → c.join-2.new.nodes.items ≡ put_between c.self.inside.nodes.items (previous_at c.self.inside.nodes.items (c.self.inside.numbers + c.args.list)) c.args.number (c.self.inside.numbers + c.args.list)
put c =
    let nodes = c.self.inside.nodes.items in
    let numbers = c.self.inside.numbers in
    let within : c.args.list < length (lists_in nodes numbers) = rw (← c.self.view_is) at c.requires.list in
    let below : c.args.number < numbers = rw (← c.self.view_is) at c.requires.within in
    let g = gap nodes numbers c.args.number c.args.list (lists_in nodes numbers) c.self.invariant within below in
    let node = node_read nodes (numbers + c.args.list) c.index.result.now g.q_in c.index.ensures in
    c.join-2.ensures.joined
    ∙ (ap (λ (ns : List Node). joined ns c.args.number (numbers + c.args.list)) c.join.ensures.joined
    ∙ ap (λ (n : Node). put_between nodes n.previous c.args.number (numbers + c.args.list)) node)

tied : (c : goal.After-join-2) → IsTied c.join-2.new.nodes.items c.self.inside.numbers (pushed (record { numbers = c.self.inside.numbers; lists = lists_in c.self.inside.nodes.items c.self.inside.numbers }) c.args.list c.args.number).lists
tied c =
    let nodes = c.self.inside.nodes.items in
    let numbers = c.self.inside.numbers in
    let within : c.args.list < length (lists_in nodes numbers) = rw (← c.self.view_is) at c.requires.list in
    let below : c.args.number < numbers = rw (← c.self.view_is) at c.requires.within in
    let fresh : list_any (has c.args.number) (lists_in nodes numbers) ≡ false = rw (← c.self.view_is) at c.requires.fresh in
    rw (put c) (tied_pushed nodes numbers c.args.number c.args.list (lists_in nodes numbers) c.self.invariant within below fresh)

pub invariant_of-self : goal.invariant_of-self
invariant_of-self c = tied_seen _ _ _ (tied c)

pub returns : goal.returns
returns c =
    let seen = lists_seen _ _ _ (tied c) in
    let numbers = c.self.inside.numbers in
    record { pushed = rw (← c.self.view_is) (ap (λ (lists : List (List ℕ)). let seen : ListsSeen = record { numbers = numbers; lists = lists } in seen) seen) }
