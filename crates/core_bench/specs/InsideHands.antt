-- The regions of a hand's stripe.
use Rattle.std.specs.Prelude.{ℕ, true, ◌≤◌, replicate, ◌≡◌}
use Rattle.page_base.specs.declared.keys.RegionShape.{RegionShape}
use Rattle.page_base.specs.declared.limits.TheConstants.{LEAST_PAGE_SIZE, MOST_PAGE_SIZE}
use Rattle.page_model.specs.Setups.{Setup}

-- a region of so many pages, which may be stored to
abbrev pub shape_of : ℕ → RegionShape
shape_of pages = record { pages = pages; group = 1; writable = true }

-- the stripe is the only one, and has so many regions of so many pages each
pub record AreEqualRegions (s : Setup) (regions pages : ℕ) : Type 0 where
  pub stripes : s.stripes ≡ 1
  pub number : s.number ≡ 0
  pub shapes : s.shapes ≡ replicate regions (shape_of pages)
  pub large_pages : LEAST_PAGE_SIZE ≤ s.page_size
  pub small_pages : s.page_size ≤ MOST_PAGE_SIZE
