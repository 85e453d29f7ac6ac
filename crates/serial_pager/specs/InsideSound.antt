-- What ties the fields of a pager, and what writing its stripes' dirty pages one after another leaves.
use Rattle.std.specs.Prelude.{◌≡◌, ℕ, ◌+◌, ◌*◌, ◌^◌, ◌<◌, ◌≤◌, List, ◌++◌, length, map, reverse, slice_get, Some}
use Rattle.page_base.specs.Lanes.{LaneSeen}
use Rattle.page_base.specs.declared.keys.RegionShape.{RegionShape}
use Rattle.page_model.specs.Core.{Core}
use Rattle.serial_pager.specs.Seen.{StripeSeen}
use Rattle.page_model.specs.Setups.{regions}
use Rattle.serial_pager.specs.Rests.{IsAtRest}
use Rattle.serial_pager.specs.Pagers.{PagerSeen, AreLanesOfCore}

-- the core is that of stripe s, and has few entries
pub record IsStripe {J : Type 0} (p : PagerSeen J) (s : ℕ) (core : Core) : Type 0 where
  pub rest : IsAtRest core
  pub page_size : core.setup.page_size ≡ p.page_size
  pub stripes : core.setup.stripes ≡ length p.stripes
  pub number : core.setup.number ≡ s
  pub shapes : core.setup.shapes ≡ p.shapes
  pub few : core.events ≤ p.spent * 2 ^ 16

-- the stripe may write its dirty pages
pub record MayFlush (size : ℕ) (core : Core) : Type 0 where
  pub rest : IsAtRest core
  pub few : core.events + 2 ^ 22 ≤ 2 ^ 62
  pub page_size : core.setup.page_size ≡ size

-- each of these stripes may write its dirty pages
abbrev pub MayFlushEach : {J : Type 0} → (size : ℕ) → List (StripeSeen J) → Type 0
MayFlushEach {J} size stripes = (s : ℕ) (x : StripeSeen J) → slice_get stripes s ≡ Some x → MayFlush size x.core

-- a stripe went on: it is at rest, has so many times 2^16 entries more at most, and closes as this says
pub record Goes {J : Type 0} (most : ℕ) (Closes : Core → Core → Type 0) (x y : StripeSeen J) : Type 0 where
  pub setup : y.core.setup ≡ x.core.setup
  pub rest : IsAtRest y.core
  pub few : y.core.events ≤ x.core.events + most * 2 ^ 16
  pub closes : Closes x.core y.core

-- each of these stripes did
abbrev pub GoesEach : {J : Type 0} → (most : ℕ) → (Closes : Core → Core → Type 0) → (old new : List (StripeSeen J)) → Type 0
GoesEach {J} most Closes old new = (s : ℕ) (x y : StripeSeen J) → slice_get old s ≡ Some x → slice_get new s ≡ Some y → Goes most Closes x y

-- each of these stripes has this region
abbrev pub HasRegionEach : {J : Type 0} → (region : ℕ) → List (StripeSeen J) → Type 0
HasRegionEach {J} region stripes = (s : ℕ) (x : StripeSeen J) → slice_get stripes s ≡ Some x → region < regions x.core.setup

-- what these stripes' journals were made with
abbrev pub all_made : {J M : Type 0} → (J → M) → List (StripeSeen J) → List M
all_made {J} made_with stripes = map (λ (x : StripeSeen J). made_with x.journal) stripes

pub record IsSound {J : Type 0} (p : PagerSeen J) : Type 0 where
  pub groups : (r : ℕ) (shape : RegionShape) → slice_get p.shapes r ≡ Some shape → 1 ≤ shape.group
  pub few : p.spent ≤ 2 ^ 44
  pub each : (s : ℕ) (x : StripeSeen J) → slice_get p.stripes s ≡ Some x → IsStripe p s x.core

-- the rows are the stripes' lanes in order, and behind them these others, of which the last came first
pub record HandsBack {J : Type 0} (stripes : List (StripeSeen J)) (others rows : List (List LaneSeen)) : Type 0 where
  pub own : List (List LaneSeen)
  pub is : rows ≡ own ++ reverse others
  pub count : length own ≡ length stripes
  pub each : (s : ℕ) (row : List LaneSeen) (x : StripeSeen J) → slice_get own s ≡ Some row → slice_get stripes s ≡ Some x → AreLanesOfCore x.core row
