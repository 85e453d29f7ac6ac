use Rattle.std.proofs.Common.{rules, ◌≡◌, ℕ, true, arith, subst}
use Rattle.page_model.specs.Core.{is_home}
use Rattle.worked_cases.proofs.locked.spend.Goals as goal

pub into_lanes-lanes-requires : goal.into_lanes-lanes-requires
into_lanes-lanes-requires g c =
    let first : is_home c.args.stripe 0 ≡ true = search rules in
    record { home = λ r below. let zero : 0 ≡ r = omega (arith, below, c.requires.one) in subst (λ (q : ℕ). is_home c.args.stripe q ≡ true) zero first }
