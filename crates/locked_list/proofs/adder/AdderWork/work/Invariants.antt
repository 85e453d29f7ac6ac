use Rattle.std.proofs.Common.{◌≡◌, false}
use Rattle.turn_lock.specs.Seen.{IsPassOf}
use Rattle.locked_list.specs.Adders.{IsSameBut}
use Rattle.locked_list.specs.Numbers.{down_from}
use Rattle.locked_list.proofs.adder.AdderWork.work.Given as goal

abbrev pub invariant-loop-number : goal.invariant-loop-number
invariant-loop-number g l = IsPassOf l.initial.self.lock.now l.self.pass × (l.self.lock.now ≡ l.initial.self.lock.now) × IsSameBut l.initial.self.pass l.self.pass × (l.self.pass.mine ≡ down_from l.number) × (l.self.done ≡ false)
