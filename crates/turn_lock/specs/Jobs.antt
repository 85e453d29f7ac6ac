-- What many jobs need, and what they leave.
use Rattle.std.specs.Prelude.{◌≡◌, ℕ, ◌<◌, List, length, slice_index_or}

module _ {J : Type 0} where
  -- each may be begun
  abbrev pub EachReady : (J → Type 0) → List J → Type 0
  EachReady ready jobs = (i : ℕ) (d : J) → i < length jobs → ready (slice_index_or jobs i d)

  -- each was done once, in its place
  pub record EachDone (leaves : J → J → Type 0) (old new : List J) : Type 0 where
    pub long : length new ≡ length old
    pub each : (i : ℕ) (d : J) → i < length old → leaves (slice_index_or old i d) (slice_index_or new i d)
