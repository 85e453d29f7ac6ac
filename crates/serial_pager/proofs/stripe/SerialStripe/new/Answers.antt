use Rattle.serial_pager.proofs.Opening.{fresh_closes, fresh_rests}
use Rattle.serial_pager.proofs.stripe.SerialStripe.new.Goals as goal

pub returns-clause-rest : goal.returns-clause-rest
returns-clause-rest g c = fresh_rests c.args.stripe c.requires.fresh

pub returns-clause-open_ : goal.returns-clause-open_
returns-clause-open_ g c = fresh_closes c.args.stripe c.requires.fresh
