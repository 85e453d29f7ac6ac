-- What the readers of a metadata text find.
use Rattle.std.specs.Prelude.{◌≡◌, ◌≢◌, ◌⊎◌, ℕ, ◌/◌, ◌<◌, ◌≤◌, List, ◌++◌, length, take, slice_index}
use Rattle.std.specs.Fmt.{decimal}
use Rattle.std.specs.Int.{IsInRange}
use Rattle.sparse_store.specs.declared.meta.TheConstants.{MOST_META_NUMBER}

-- n bytes of the label stand here, and behind them another byte or none
pub record StopsAt (bytes label : List ℕ) (n : ℕ) : Type 0 where
  pub short : n < length label
  pub within : n ≤ length bytes
  pub alike : take n bytes ≡ take n label
  pub ends : n < length bytes → slice_index bytes n ≢ slice_index label n

-- no digit stands here
abbrev pub EndsDigits : List ℕ → Type 0
EndsDigits bytes = 0 < length bytes → ¬ (IsInRange 48 57 (slice_index bytes 0))

-- no digit but 0 does
abbrev pub NoNumber : List ℕ → Type 0
NoNumber bytes = 0 < length bytes → ¬ (IsInRange 49 57 (slice_index bytes 0))

-- a number stands here, as long as it may be, and the rest behind it
pub record Numbered (bytes : List ℕ) (value : ℕ) (rest : List ℕ) : Type 0 where
  pub spelt : bytes ≡ decimal value ++ rest
  pub least : 1 ≤ value
  pub most : value ≤ MOST_META_NUMBER
  pub ends : (MOST_META_NUMBER / 10 < value) ⊎ EndsDigits rest

-- the label stands here, and a number behind it
abbrev pub LabelledNumber : (bytes label : List ℕ) → ℕ → (rest : List ℕ) → Type 0
LabelledNumber bytes label value rest = (digits : List ℕ) × (bytes ≡ label ++ digits) × Numbered digits value rest

-- the first n bytes are of a label, and not the next; or the label stands here, and no number behind it
abbrev pub NoLabelledNumber : (bytes label : List ℕ) → ℕ → Type 0
NoLabelledNumber bytes label n = StopsAt bytes label n ⊎ ((rest : List ℕ) × (bytes ≡ label ++ rest) × NoNumber rest × (n ≡ length label))
