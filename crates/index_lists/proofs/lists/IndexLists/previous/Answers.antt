use Rattle.std.proofs.Common.{◌∙◌, ◌<◌, ap, arith}
use Rattle.index_lists.specs.declared.node.Node.{Node}
use Rattle.index_lists.specs.InsideNodes.{number_of, lists_in}
use Rattle.index_lists.proofs.Tied.{node_read, previous_of}
use Rattle.index_lists.proofs.lists.IndexLists.previous.Goals as goal

pub returns-clause-exact : goal.returns-clause-exact
returns-clause-exact c =
    λ list place here.
    let nodes = c.self.inside.nodes.items in
    let numbers = c.self.inside.numbers in
    let within : c.args.number < numbers = rw (← c.self.view_is) at c.requires.within in
    let size = c.self.invariant.size in
    let node = node_read nodes c.args.number c.index.result.now (omega arith) c.index.ensures in
    rw (← c.self.view_is)
    ((rw (← c.self.view_is) at c.number.ensures.exact)
    ∙ (ap (λ (n : Node). number_of numbers n.previous) node ∙ previous_of nodes numbers c.args.number list place (lists_in nodes numbers) c.self.invariant (rw (← c.self.view_is) at here)))
