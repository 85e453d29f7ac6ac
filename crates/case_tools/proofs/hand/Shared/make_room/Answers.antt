use Rattle.case_tools.proofs.Hands.{room_may}
use Rattle.case_tools.proofs.hand.Shared.make_room.Goals as goal

pub invariant_of-self : goal.invariant_of-self
invariant_of-self g c = record {
  fit = c.write_back.ensures.fit;
  may = room_may c.calls_end_trips.ensures c.self.inside.pager c.self.inside.passes c.write_back.new.p 0 c.write_back.result c.write_back.ensures.made c.write_back.ensures.err c.self.invariant.may;
  region = c.self.invariant.region;
  stripe = c.self.invariant.stripe;
  lock = c.self.invariant.lock;
}
