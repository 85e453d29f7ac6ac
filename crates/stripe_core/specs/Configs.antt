-- What a stripe may be made with.
use Rattle.std.specs.Prelude.{ℕ, ◌≡◌, ◌<◌, ◌≤◌, List, length, slice_get, Some, sum_by}
use Rattle.page_base.specs.declared.keys.RegionShape.{RegionShape}
use Rattle.page_base.specs.declared.limits.TheConstants.{MOST_FAULTS, MOST_REGIONS, MOST_PAGES}
use Rattle.page_base.specs.Lanes.{LaneSeen}
use Rattle.page_model.specs.Setups.{Setup, IsLaneOf}
use Rattle.stripe_core.specs.declared.config.StripeConfig.{StripeConfig}

-- the setup of a stripe that is made with these
abbrev pub setup_of : StripeConfig → List LaneSeen → Setup
setup_of c lanes = record {
  page_size = c.layout.page_size;
  stripes = c.layout.stripes;
  frames = c.layout.frames;
  number = c.number;
  faults = c.faults;
  high = c.high;
  low = c.low;
  shapes = c.shapes.items;
  lanes = lanes;
}

-- the numbers are in their ranges, and there is one lane a region, with the stripe's pages of it
pub record CanMake (c : StripeConfig) (given : List LaneSeen) : Type 0 where
  pub number : c.number < c.layout.stripes
  pub some_fault : 1 ≤ c.faults
  pub few_faults : c.faults ≤ MOST_FAULTS
  pub marks : c.low < c.high
  pub percent : c.high ≤ 100
  pub few_regions : length c.shapes.items ≤ MOST_REGIONS
  pub few_pages : sum_by (λ (s : RegionShape). s.pages) c.shapes.items ≤ MOST_PAGES
  pub groups : (r : ℕ) (s : RegionShape) → slice_get c.shapes.items r ≡ Some s → 1 ≤ s.group
  pub lane_count : length given ≡ length c.shapes.items
  pub lanes : (r : ℕ) (s : RegionShape) (lane : LaneSeen) → slice_get c.shapes.items r ≡ Some s → slice_get given r ≡ Some lane → IsLaneOf (setup_of c given) r s lane.origin
