-- The table of a workload's regions.
use Rattle.std.specs.Prelude.{ℕ, List, [], ◌∷◌}
use Rattle.workload_text.specs.Line.{Line, map_line}
use Rattle.region_table.specs.Regions.{NamedRegion, TableSeen}

-- the regions of the `map` lines, in order, as the table of regions sees them
abbrev pub regions_seen : List Line → List NamedRegion
regions_seen [] = []
regions_seen (map_line name backing size writable ∷ ls) = record { name = name; backing = backing; size = size; writable = writable } ∷ regions_seen ls
regions_seen (l ∷ ls) = regions_seen ls

-- the table of the regions of a workload's lines
abbrev pub table_of : (page_size : ℕ) → List Line → TableSeen
table_of page_size lines = record { page_size = page_size; regions = regions_seen lines }
