use Rattle.case_tools.proofs.Hands.{serve_may}
use Rattle.case_tools.proofs.hand.Shared.serve.Goals as goal

pub invariant_of-self : goal.invariant_of-self
invariant_of-self g c = record {
  fit = c.serve_one.ensures.fit;
  may = serve_may c.calls_end_trips.ensures c.self.inside.pager c.self.inside.passes c.serve_one.new.p 0 c.serve_one.result c.serve_one.ensures.served c.serve_one.ensures.err c.self.invariant.may;
  region = c.self.invariant.region;
  stripe = c.self.invariant.stripe;
  lock = c.self.invariant.lock;
}
