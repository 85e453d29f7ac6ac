use Rattle.std.proofs.Common.{rules, ◌<◌, sym, subst}
use Rattle.core_bench.proofs.Regions.{counted}
use Rattle.core_bench.proofs.Resting.{home}
use Rattle.core_bench.proofs.hand.Hand.known.Goals as goal

pub returns-then-events-lt-MOST_EVENTS-clause-region : goal.returns-then-events-lt-MOST_EVENTS-clause-region
returns-then-events-lt-MOST_EVENTS-clause-region g c =
    let below : c.args.key.region < c.self.inside.regions = search rules in
    rw (← c.self.view_is) (subst (λ n. c.args.key.region < n) (sym (counted c.self.inside.stripe.setup c.self.inside.regions c.self.inside.pages c.self.invariant.1)) below)

pub returns-then-events-lt-MOST_EVENTS-clause-home : goal.returns-then-events-lt-MOST_EVENTS-clause-home
returns-then-events-lt-MOST_EVENTS-clause-home g c =
    let below : c.args.key.region < c.self.inside.regions = search rules in
    let within = subst (λ n. c.args.key.region < n) (sym (counted c.self.inside.stripe.setup c.self.inside.regions c.self.inside.pages c.self.invariant.1)) below in
    rw (← c.self.view_is) (home c.self.inside.stripe c.args.key.region c.readers_agree.ensures c.self.invariant.0 within)
