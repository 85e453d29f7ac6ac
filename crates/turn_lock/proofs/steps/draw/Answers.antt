use Rattle.std.proofs.Common.{rules}
use Rattle.turn_lock.proofs.Holds.{draws}
use Rattle.turn_lock.proofs.steps.draw.Goals as goal

pub fetch_add-requires : goal.fetch_add-requires
fetch_add-requires g c = (search rules, search rules, draws g.T.Stands.stands g.T.Stands.fixed _ _ _ _ c.requires.live c.requires.out.0 c.requires.room)
