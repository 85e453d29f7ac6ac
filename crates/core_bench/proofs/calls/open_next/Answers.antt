use Rattle.std.proofs.Common.{refl}
use Rattle.page_model.specs.declared.entry.Entry.TheVariants as entry
use Rattle.core_bench.proofs.Going.{entry_goes}
use Rattle.core_bench.proofs.calls.open_next.Goals as goal

pub returns-in-Open-clause-on : goal.returns-in-Open-clause-on
returns-in-Open-clause-on g c = entry_goes c.args.stripe.now c.open_page.new.self (entry.Opened c.open_page.result) c.open_page.ensures.fixed c.open_page.ensures.stands (λ h r. refl)
