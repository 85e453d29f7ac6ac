use Rattle.case_tools.proofs.Hands.{load_may}
use Rattle.case_tools.proofs.hand.Shared.load.Goals as goal

pub invariant_of-self : goal.invariant_of-self
invariant_of-self g c = record {
  fit = c.load.ensures.fit;
  may = load_may c.calls_end_trips.ensures c.self.inside.pager c.self.inside.passes c.load.new.p 0 c.args.off c.args.buf.now c.load.new.buf c.load.result c.load.ensures.loaded c.load.ensures.refused c.self.invariant.may;
  region = c.self.invariant.region;
  stripe = c.self.invariant.stripe;
  lock = c.self.invariant.lock;
}
