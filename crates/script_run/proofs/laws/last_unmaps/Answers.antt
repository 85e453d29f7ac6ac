use Rattle.script_run.proofs.Lasts.{last_unmaps}
use Rattle.script_run.proofs.laws.last_unmaps.Goals as goal

pub returns : goal.returns
returns g c = last_unmaps c.unmapped_is_emptied.ensures g.J.Journal.has_noted
