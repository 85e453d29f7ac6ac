-- What a table keeps, and what the body that adds a region counts.
use Rattle.std.specs.Prelude.{◌≡◌, ℕ, ◌+◌, ◌/◌, ◌≤◌, true, [], length, Some, None, Result, MatchResult}
use Rattle.page_base.specs.declared.limits.TheConstants.{LEAST_PAGE_SIZE, MOST_REGIONS, MOST_PAGES}
use Rattle.region_table.specs.declared.spec.RegionFault.{RegionFault}
use Rattle.region_table.specs.Regions.{NamedRegion, TableSeen, page_count}
use Rattle.region_table.specs.Rules.{region_fault, keeps_rules}

-- `pages` are the table's, `spare` is room for all regions that may be added yet, and no region breaks a rule behind those
-- before it
abbrev pub KeepsTable : TableSeen → (pages spare : ℕ) → Type 0
KeepsTable t pages spare =
    (LEAST_PAGE_SIZE ≤ t.page_size) × (pages ≤ MOST_PAGES) × (pages ≡ page_count t) × (length t.regions ≤ MOST_REGIONS)
    × (MOST_REGIONS ≤ length t.regions + spare) × (keeps_rules t.page_size [] t.regions ≡ true)

-- the pages of all regions and one more, or the first rule that the one more breaks
abbrev pub CountsWith : TableSeen → NamedRegion → Result ℕ RegionFault → Type 0
CountsWith t r result =
    MatchResult result
    (λ n. (region_fault t r ≡ None) × (n ≤ MOST_PAGES) × (n ≡ page_count t + r.size / t.page_size))
    (λ f. region_fault t r ≡ Some f)
