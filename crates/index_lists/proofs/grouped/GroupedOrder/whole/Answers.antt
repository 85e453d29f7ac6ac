use Rattle.index_lists.proofs.grouped.GroupedOrder.whole.Goals as goal

pub returns : goal.returns
returns c = record { whole = rw (← c.self.view_is) (record { groups = c.self.invariant.sizes.0; marks = c.self.invariant.sizes.1 }) }
