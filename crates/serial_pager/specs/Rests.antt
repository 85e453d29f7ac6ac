-- A stripe between two calls of one thread.
use Rattle.std.specs.Prelude.{◌≡◌, ℕ, ◌<◌, ◌≤◌, true, List, [], slice_get, Some, sum_by}
use Rattle.histories.specs.Histories.{History}
use Rattle.page_base.specs.declared.keys.RegionShape.{RegionShape}
use Rattle.page_base.specs.declared.limits.TheConstants.{MOST_PAGE_SIZE, MOST_FRAMES, MOST_FAULTS, MOST_REGIONS, MOST_PAGES}
use Rattle.page_base.specs.Lanes.{LaneSeen}
use Rattle.page_model.specs.declared.entry.Entry.{Entry}
use Rattle.page_model.specs.Setups.{Setup, regions}
use Rattle.page_model.specs.Core.{Core, is_home, is_closing}
use Rattle.page_model.specs.Stands.{StandsFor}
use Rattle.page_model.specs.Steps.{fresh}
use Rattle.stripe_core.specs.declared.config.StripeConfig.{StripeConfig}
use Rattle.stripe_core.specs.Configs.{setup_of, CanMake}

-- the bounds that a stripe is made within
pub record IsBounded (s : Setup) : Type 0 where
  pub small_pages : s.page_size ≤ MOST_PAGE_SIZE
  pub few_faults : s.faults ≤ MOST_FAULTS
  pub few_frames : s.frames ≤ MOST_FRAMES
  pub few_regions : regions s ≤ MOST_REGIONS
  pub few_pages : sum_by (λ (shape : RegionShape). shape.pages) s.shapes ≤ MOST_PAGES
  pub groups : (r : ℕ) (shape : RegionShape) → slice_get s.shapes r ≡ Some shape → 1 ≤ shape.group

-- the stripe stands for a history, and each lane is home
pub record IsAtRest (c : Core) : Type 0 where
  pub history : History Entry
  pub stands : StandsFor history c
  pub home : (r : ℕ) → r < regions c.setup → is_home c r ≡ true
  pub bounded : IsBounded c.setup

-- the regions that close are the same
abbrev pub ClosesSame : (old new : Core) → Type 0
ClosesSame old new = (r : ℕ) → is_closing new r ≡ is_closing old r

-- the stripe has just been made, by this configuration with these lanes
pub record IsFresh (c : Core) : Type 0 where
  pub config : StripeConfig
  pub lanes : List LaneSeen
  pub can : CanMake config lanes
  pub is : c ≡ fresh (setup_of config lanes)
  pub stands : StandsFor [] c
