use Rattle.std.proofs.Common.{refl, ◌∷◌, []}
use Rattle.page_model.specs.declared.entry.Entry.TheVariants as entry
use Rattle.core_bench.proofs.Going.{look_goes}
use Rattle.core_bench.proofs.calls.save_at.Goals as goal

pub returns-clause-on : goal.returns-clause-on
returns-clause-on g c = look_goes c.args.stripe.now c.save.new.self (entry.Save c.args.key c.args.place (c.args.byte ∷ [])) c.save.result c.save.ensures.fixed c.save.ensures.stands c.save.ensures.same (λ h r. refl)
