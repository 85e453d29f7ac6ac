use Rattle.std.proofs.Common.{refl}
use Rattle.page_model.specs.declared.entry.Entry.TheVariants as entry
use Rattle.core_bench.proofs.Going.{look_goes}
use Rattle.core_bench.proofs.sweeps.load_part.Goals as goal

pub returns-then-matches-clause-on : goal.returns-then-matches-clause-on
returns-then-matches-clause-on g c = look_goes c.args.stripe.now c.load.new.self (entry.Load c.args.key c.args.place c.load.new.buf) c.load.result c.load.ensures.fixed c.load.ensures.stands c.load.ensures.same (λ h r. refl)
