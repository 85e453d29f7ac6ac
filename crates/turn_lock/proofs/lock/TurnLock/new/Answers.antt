use Rattle.std.proofs.Common.{rules}
use Rattle.turn_lock.proofs.Ends.{begins}
use Rattle.turn_lock.proofs.lock.TurnLock.new.Goals as goal

pub new-requires : goal.new-requires
new-requires g c = begins g.T.Stands.stands g.T.Stands.fixed _ c.args.value _ (search rules) (search rules) (search rules) (search rules) (search rules) (search rules)
