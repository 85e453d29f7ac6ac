use Rattle.std.proofs.Common.{refl}
use Rattle.page_model.specs.declared.entry.Entry.TheVariants as entry
use Rattle.core_bench.proofs.Going.{look_goes}
use Rattle.core_bench.proofs.calls.load_at.Goals as goal

pub returns : goal.returns
returns g c = record { on = look_goes c.args.stripe.now c.load-look.new.self (entry.Load c.args.key c.args.place c.load-look.new.buf) c.load-look.result c.load-look.ensures.fixed c.load-look.ensures.stands c.load-look.ensures.same (λ h r. refl) }
