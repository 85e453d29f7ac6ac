-- What no event changes of a stripe, and no entry of the journal that goes with it.
use Rattle.page_model.specs.Setups.{Setup}

-- what a stripe was made with, and what its journal was made with
pub record Fixed (M : Type 0) : Type 0 where
  pub setup : Setup
  pub journal : M
