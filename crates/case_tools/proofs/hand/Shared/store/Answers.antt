use Rattle.case_tools.proofs.Hands.{store_may}
use Rattle.case_tools.proofs.hand.Shared.store.Goals as goal

pub invariant_of-self : goal.invariant_of-self
invariant_of-self g c = record {
  fit = c.store.ensures.fit;
  may = store_may c.calls_end_trips.ensures c.self.inside.pager c.self.inside.passes c.store.new.p 0 c.args.off c.args.bytes.now c.store.result c.store.ensures.stored c.store.ensures.refused c.self.invariant.may;
  region = c.self.invariant.region;
  stripe = c.self.invariant.stripe;
  lock = c.self.invariant.lock;
}
