use Rattle.std.proofs.Common.{refl}
use Rattle.page_model.specs.declared.entry.Entry.TheVariants as entry
use Rattle.core_bench.proofs.Going.{look_goes}
use Rattle.core_bench.proofs.sweeps.save_part.Goals as goal

pub returns-then-matches-clause-on : goal.returns-then-matches-clause-on
returns-then-matches-clause-on g c = look_goes c.args.stripe.now c.save.new.self (entry.Save c.args.key c.args.place c.args.bytes.now) c.save.result c.save.ensures.fixed c.save.ensures.stands c.save.ensures.same (λ h r. refl)
