use Rattle.std.proofs.Common.{◌∙◌, ◌≤◌, arith}
use Rattle.index_lists.proofs.Ordered.{first_is, none_past}
use Rattle.index_lists.proofs.grouped.GroupedOrder.first_of.Goals as goal

pub returns-then-group-self-clause-exact : goal.returns-then-group-self-clause-exact
returns-then-group-self-clause-exact c = rw (← c.self.view_is) (c.first.ensures.exact ∙ first_is _ _ _ _ _ _ c.self.invariant c.args.group c.if-group-self.true)

pub returns-else-group-self-clause-exact : goal.returns-else-group-self-clause-exact
returns-else-group-self-clause-exact c = let past : c.self.inside.many ≤ c.args.group = omega (arith, c.if-group-self.false) in rw (← c.self.view_is) (none_past _ _ _ _ _ _ c.self.invariant c.args.group past)
