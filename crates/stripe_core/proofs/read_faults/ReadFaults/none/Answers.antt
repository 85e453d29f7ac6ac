use Rattle.std.proofs.Common.{List, replicate, ℕ, ◌≡◌}
use Rattle.stripe_core.proofs.Shares.{spread_zeros}
use Rattle.stripe_core.proofs.read_faults.ReadFaults.none.Goals as goal

pub returns-clause-none : goal.returns-clause-none
returns-clause-none c =
    let zero_each : List ℕ = replicate c.own_below.result 0 in
    let zeros : c.in_ok-own.own.items ≡ zero_each = c.in_ok-own.ensures.items_if_clones_equal (λ y e. e) in
    rw (c.of.ensures, zeros) (spread_zeros c.args.share c.own_below.result c.args.pages)
