use Rattle.std.proofs.Common.{◌≡◌, ◌+◌, List, ℕ, ap, subst, arith}
use Rattle.index_lists.specs.Lists.{ListsSeen}
use Rattle.index_lists.proofs.Seen.{lists_seen}
use Rattle.index_lists.proofs.Tied.{AreAlone, tied_new, tied_seen}
use Rattle.index_lists.proofs.lists.IndexLists.new.Goals as goal

pub invariant_of-result : goal.invariant_of-result
invariant_of-result c =
    let nodes = c.loop-at.nodes.items in
    let all : c.loop-at.at ≡ c.args.numbers + c.args.lists = omega arith in
    tied_seen _ _ _ (tied_new nodes c.args.numbers c.args.lists c.requires.few (subst (AreAlone nodes) all c.loop-at.invariant.alone))

pub returns : goal.returns
returns c =
    let nodes = c.loop-at.nodes.items in
    let numbers = c.args.numbers in
    let all : c.loop-at.at ≡ c.args.numbers + c.args.lists = omega arith in
    let seen = lists_seen _ _ _ (tied_new nodes numbers c.args.lists c.requires.few (subst (AreAlone nodes) all c.loop-at.invariant.alone)) in
    record { empty = ap (λ (lists : List (List ℕ)). let seen : ListsSeen = record { numbers = numbers; lists = lists } in seen) seen }
