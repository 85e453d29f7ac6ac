-- How the parts of a pager go together, and what a piece of a range is to it.
use Rattle.std.specs.Prelude.{ℕ, ◌+◌, ◌*◌, ◌<◌, ◌≤◌, ◌≡◌, Bool, List, [], ◌∷◌, length, slice_get, Some}
use Rattle.page_base.specs.declared.keys.Key.{Key}
use Rattle.page_base.specs.declared.keys.RegionShape.{RegionShape}
use Rattle.page_base.specs.declared.keys.Why.{Why}
use Rattle.page_base.specs.declared.layout.Layout.{Layout}
use Rattle.page_model.specs.declared.entry.Entry.{Entry}
use Rattle.page_model.specs.Setups.{Setup}
use Rattle.region_table.specs.Regions.{TableSeen, shapes_of}
use Rattle.turn_lock.specs.Seen.{LockSeen, PassSeen}
use Rattle.locked_stripe.specs.declared.stripe_box.StripeBox.{StripeBox}
use Rattle.locked_stripe.specs.Calls.{HoldsAreFew, PieceWent}
use Rattle.locked_stripe.specs.Terms.{locked_setup}
use Rattle.umap_pager.specs.Shared.{SharedPager, region_size}

-- the stripe of this number in this layout, with pages of these regions
pub record SuitsStripe (layout : Layout) (table : TableSeen) (s : ℕ) (u : Setup) : Type 0 where
  pub page_size : u.page_size ≡ layout.page_size
  pub stripes : u.stripes ≡ layout.stripes
  pub number : u.number ≡ s
  pub shapes : u.shapes ≡ shapes_of table

module _ {S J : Type 0} where
  -- the locks are of the layout's stripes, over the table's regions, which have whole pages
  pub record GoesTogether (p : SharedPager S J) (shapes : List RegionShape) : Type 0 where
    pub shapes_are : shapes ≡ shapes_of p.table
    pub page_size : p.table.page_size ≡ p.layout.page_size
    pub count : length p.locks ≡ p.layout.stripes
    pub each : (s : ℕ) (lock : LockSeen (StripeBox S J)) → slice_get p.locks s ≡ Some lock → SuitsStripe p.layout p.table s (locked_setup lock)
    pub groups : (r : ℕ) (shape : RegionShape) → slice_get (shapes_of p.table) r ≡ Some shape → 1 ≤ shape.group
    pub sizes : (r : ℕ) (shape : RegionShape) → slice_get (shapes_of p.table) r ≡ Some shape → region_size p r ≡ shape.pages * p.layout.page_size

  -- a part of a page of one of the regions, and not empty
  pub record IsPart (p : SharedPager S J) (k : Key) (place len : ℕ) : Type 0 where
    pub region : k.region < length p.table.regions
    pub page : (shape : RegionShape) → slice_get (shapes_of p.table) k.region ≡ Some shape → k.page < shape.pages
    pub some : 0 < len
    pub inside : place + len ≤ p.layout.page_size

module _ {T : Type 0} where
  -- an access of page k is done
  pub record PieceDone (k : Key) (reasons : Why → Bool) (access : Entry) (old new : PassSeen T Entry) : Type 0 where
    pub went : PieceWent k reasons old new (access ∷ [])
    pub few : HoldsAreFew old new
