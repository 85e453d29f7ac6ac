use Rattle.index_lists.proofs.Ordered.{seen_new}
use Rattle.index_lists.proofs.grouped.GroupedOrder.new.Goals as goal

pub returns : goal.returns
returns c = record { empty = rw (c.in_ok-order.ensures.empty, c.in_ok-places.ensures) (seen_new c.args.groups c.args.numbers) }
