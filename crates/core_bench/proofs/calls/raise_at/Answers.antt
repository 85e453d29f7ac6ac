use Rattle.core_bench.proofs.Going.{raise_goes}
use Rattle.core_bench.proofs.calls.raise_at.Goals as goal

pub returns-clause-on : goal.returns-clause-on
returns-clause-on g c = raise_goes c.args.stripe.now c.raise.new.self c.args.key c.args.why c.raise.result c.raise.ensures.fixed c.raise.ensures.stands c.raise.ensures.same
