use Rattle.applied_laws.proofs.lists.keys_in_rising_order.Goals as goal

pub returns : goal.returns
returns c = λ i j k e f. let law = c.keys_are_ordered.ensures in law.apart i k (law.through i j k e f)
