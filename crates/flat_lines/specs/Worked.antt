-- A worked case: a store and a load over a sparse region of eight bytes, whose four pages lie two and two in two stripes.
use Rattle.std.specs.Prelude.{◌≡◌, ℕ, ◌<◌, true, List, [], ◌∷◌, length, replicate, Some}
use Rattle.page_base.specs.Backings.{in_memory}
use Rattle.page_base.specs.Lanes.{all_there}
use Rattle.page_model.specs.declared.entry.Entry.{Entry}
use Rattle.page_model.specs.Owned.{LoadsFollow}
use Rattle.page_model.specs.Pieces.{loads, saves}
use Rattle.page_model.specs.Setups.{Setup}
use Rattle.region_table.specs.Pieces.{pieces_of}
use Rattle.flat_lines.specs.Worlds.{World}
use Rattle.flat_lines.specs.Lines.{more_made}

-- a stripe whose lane told zeros
abbrev pub zero_stripe : ℕ → Setup
zero_stripe s = record {
  page_size = 2;
  stripes = 2;
  frames = 2;
  number = s;
  faults = 1;
  high = 90;
  low = 70;
  shapes = record { pages = 4; group = 2; writable = true } ∷ [];
  lanes = record {
    origin = record { backing = in_memory; region = 0; pages = 4; page_size = 2; group = 2; stripes = 2; stripe = s; there = all_there };
    told = replicate 4 (Some (0 ∷ 0 ∷ []));
    count = 0;
  } ∷ [];
}

abbrev pub two_stripes : World
two_stripes = record {
  spread = record { page_size = 2; stripes = 2; group_of = λ r. 2 };
  pages = λ r. 4;
  setups = zero_stripe;
  claimed = λ r. true;
}

-- what the stripes made for a store of 7, 8 and 9 from byte 3 on, which goes over from the first stripe to the second, and
-- then for a load of four bytes from byte 2 on
abbrev pub stored_and_loaded : (bytes : List ℕ) → ℕ → List Entry
stored_and_loaded bytes =
    more_made two_stripes.spread (loads (pieces_of 2 0 2 4) bytes)
    (more_made two_stripes.spread (saves (pieces_of 2 0 3 3) (7 ∷ 8 ∷ 9 ∷ [])) (λ s. []))

abbrev pub FollowsStore : (bytes : List ℕ) → Type 0
FollowsStore bytes = (s : ℕ) → s < 2 → LoadsFollow (zero_stripe s) (stored_and_loaded bytes s)

-- the load may give one zero and what was stored, and nothing else
pub record LoadsWhatWasStored : Type 0 where
  pub may : FollowsStore (0 ∷ 7 ∷ 8 ∷ 9 ∷ [])
  pub must : (bytes : List ℕ) → length bytes ≡ 4 → FollowsStore bytes → bytes ≡ 0 ∷ 7 ∷ 8 ∷ 9 ∷ []
