-- What contracts see of a stripe with its journal.
use Rattle.page_model.specs.Core.{Core}
use Rattle.stripe_core.specs.Fixed.{Fixed}

pub record StripeSeen (J : Type 0) : Type 0 where
  pub core : Core
  pub journal : J

-- what the stripe and its journal were made with
abbrev pub fixed_of : {J M : Type 0} → (J → M) → StripeSeen J → Fixed M
fixed_of made_with x = record { setup = x.core.setup; journal = made_with x.journal }
