-- Why a call of something outside may answer a fault.
use Rattle.std.specs.Prelude.{◌≡◌, ℕ, ◌≤◌, Result, OnErr, IfErr}
use Rattle.page_base.specs.Lanes.{Rose}

-- The count never falls. A fault comes only where it rose, and carries it; `carried` reads it from the error
pub record HasCause {T E : Type 0} (carried : E → ℕ) (before now : ℕ) (result : Result T E) : Type 0 where
  pub later : before ≤ now
  pub failed : OnErr result (Rose before now)
  pub carries : IfErr result (λ e. carried e ≡ now)
