-- A stripe that is driven by hand.
use Rattle.std.specs.Prelude.{ℕ, true, ◌<◌, List, slice_get, None, Some, ◌≡◌}
use Rattle.page_base.specs.Lanes.{LaneSeen}
use Rattle.histories.specs.Histories.{History}
use Rattle.page_base.specs.declared.keys.Key.{Key}
use Rattle.page_model.specs.declared.entry.Entry.{Entry}
use Rattle.page_model.specs.InFlight.{in_flight}
use Rattle.page_model.specs.Setups.{Setup, has_page, is_writable}
use Rattle.page_model.specs.Core.{Core}
use Rattle.page_model.specs.Stands.{StandsFor}
use Rattle.store_trait.specs.Memory.{memory_origin}

-- the stripe has so many pages of region r, which may be stored to
pub record HasRegion (s : Setup) (r pages : ℕ) : Type 0 where
  pub page : (page : ℕ) → page < pages → has_page s (record { region = r; page = page }) ≡ true
  pub writable : is_writable s r ≡ true

-- each page of the stripe may be stored to
abbrev pub IsAllWritable : Setup → Type 0
IsAllWritable s = (k : Key) → has_page s k ≡ true → is_writable s k.region ≡ true

-- by region, lanes of a stripe that is the only one, over regions of so many pages in memory
pub record AreMemoryLanes {S : Type 0} (seen : S → LaneSeen) (pages page_size : ℕ) (lanes : List S) : Type 0 where
  pub each : (r : ℕ) (lane : S) → slice_get lanes r ≡ Some lane → (seen lane).origin ≡ memory_origin r pages page_size 1 0

-- the stripe stands for a history
pub record Stands (c : Core) : Type 0 where
  pub history : History Entry
  pub is : StandsFor history c

-- the stripe stands for a history in which nothing is in flight
pub record IsAtRest (c : Core) : Type 0 where
  pub history : History Entry
  pub is : StandsFor history c
  pub flight : (r : ℕ) → in_flight history r ≡ None

-- the history went on from h, and what was in flight is so still
pub record Later (h : History Entry) (c : Core) : Type 0 where
  pub history : History Entry
  pub is : StandsFor history c
  pub flight : (r : ℕ) → in_flight history r ≡ in_flight h r

-- whatever history the stripe stood for went on, and no lane went out or came back
pub record CoreGoesOn (c d : Core) : Type 0 where
  pub setup : d.setup ≡ c.setup
  pub later : (h : History Entry) → StandsFor h c → Later h d
