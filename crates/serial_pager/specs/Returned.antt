-- The lanes that a stripe hands back.
use Rattle.std.specs.Prelude.{◌≡◌, ℕ, List, slice_get, Some}
use Rattle.page_base.specs.Lanes.{LaneSeen}
use Rattle.page_model.specs.Core.{Core}
use Rattle.page_model.specs.Readers.{IsHere}

-- by region, these are the lanes that the stripe had at home
abbrev pub AreHere : {S : Type 0} → (S → LaneSeen) → Core → List S → Type 0
AreHere {S} seen c lanes = (r : ℕ) (lane : S) → slice_get lanes r ≡ Some lane → IsHere c r (seen lane)
