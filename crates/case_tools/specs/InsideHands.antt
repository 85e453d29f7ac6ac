-- The one region of a pager that is held in one hand.
use Rattle.std.specs.Prelude.{ℕ, ◌≡◌, Bool, List, [], ◌∷◌}
use Rattle.page_base.specs.Backings.{in_memory}
use Rattle.region_table.specs.Regions.{TableSeen}

-- the table has one region, in memory, of so many bytes
pub record HasOneRegion (page size : ℕ) (may_store : Bool) (t : TableSeen) : Type 0 where
  pub name : List ℕ
  pub page_size : t.page_size ≡ page
  pub regions : t.regions ≡ record { name = name; backing = in_memory; size = size; writable = may_store } ∷ []
