use Rattle.page_base.proofs.KeyOrders.{below-apart, below-through, below-one}
use Rattle.page_base.proofs.laws.keys_are_ordered.Goals as goal

pub returns : goal.returns
returns c = record { apart = below-apart; through = below-through; one = below-one }
