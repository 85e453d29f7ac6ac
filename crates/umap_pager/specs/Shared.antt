-- What contracts see of a pager that threads share, and where its pages lie.
use Rattle.std.specs.Prelude.{ℕ, List, slice_get, slice_index, Option, Some, None}
use Rattle.page_base.specs.declared.keys.Key.{Key}
use Rattle.page_base.specs.declared.keys.Piece.{Piece}
use Rattle.page_base.specs.declared.keys.RegionShape.{RegionShape}
use Rattle.page_base.specs.declared.layout.Layout.{Layout}
use Rattle.page_base.specs.Pages.{stripe_of}
use Rattle.region_table.specs.Pieces.{pieces_of}
use Rattle.region_table.specs.Regions.{TableSeen, shapes_of, lengths_of}
use Rattle.turn_lock.specs.Seen.{LockSeen}
use Rattle.locked_stripe.specs.declared.stripe_box.StripeBox.{StripeBox}

-- the layout of the buffer, the table of regions, and each stripe's lock, in order of number
pub record SharedPager (S J : Type 0) : Type 0 where
  pub layout : Layout
  pub table : TableSeen
  pub locks : List (LockSeen (StripeBox S J))

-- how many pages of a region lie together
abbrev pub shared_group : Option RegionShape → ℕ
shared_group None = 1
shared_group (Some shape) = shape.group

module _ {S J : Type 0} where
  -- the stripe of a page
  abbrev pub page_stripe : SharedPager S J → Key → ℕ
  page_stripe p k = stripe_of p.layout.stripes (shared_group (slice_get (shapes_of p.table) k.region)) k.region k.page

  -- the bytes of a region
  abbrev pub region_size : SharedPager S J → (region : ℕ) → ℕ
  region_size p r = slice_index (lengths_of p.table) r

  -- the pieces of a range of a region's bytes
  abbrev pub range_pieces : SharedPager S J → (region off len : ℕ) → List Piece
  range_pieces p r off len = pieces_of p.layout.page_size r off len
