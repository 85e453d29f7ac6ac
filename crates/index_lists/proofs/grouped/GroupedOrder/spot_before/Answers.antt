use Rattle.std.proofs.Common.{◌∙◌}
use Rattle.index_lists.proofs.Ordered.{previous_is}
use Rattle.index_lists.proofs.grouped.GroupedOrder.spot_before.Goals as goal

pub returns-in-Some : goal.returns-in-Some
returns-in-Some c = record { spot = rw (← c.self.view_is) (λ group place lt here. previous_is _ _ _ _ _ _ c.self.invariant group place c.args.number c.previous.result lt here c.previous.ensures.exact ∙ c.in-Some.is) }

pub returns-in-None : goal.returns-in-None
returns-in-None c = record { spot = rw (← c.self.view_is) (λ group place lt here. previous_is _ _ _ _ _ _ c.self.invariant group place c.args.number c.previous.result lt here c.previous.ensures.exact ∙ c.in-None.is) }
