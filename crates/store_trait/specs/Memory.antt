-- A store in memory, as a whole and by lanes.
use Rattle.std.specs.Prelude.{ℕ, ◌+◌, ◌*◌, ◌/◌, if◌then◌else◌, List, map, slice_range, Option, Some, None}
use Rattle.std.specs.List.{range_with_len}
use Rattle.page_base.specs.Backings.{in_memory}
use Rattle.page_base.specs.Lanes.{Origin, LaneSeen, has_page, all_there}

-- one page of bytes that lie page by page
abbrev pub page_bytes : (page_size : ℕ) → List ℕ → (page : ℕ) → List ℕ
page_bytes page_size bytes page = slice_range bytes (page * page_size) (page * page_size + page_size)

-- one stripe's lane of a region in memory, whose pages go round the stripes one by one
abbrev pub memory_origin : (region pages page_size stripes stripe : ℕ) → Origin
memory_origin region pages page_size stripes stripe =
    record { backing = in_memory; region = region; pages = pages; page_size = page_size; group = 1; stripes = stripes; stripe = stripe; there = all_there }

-- what a lane tells whose pages have the bytes that a function gives, and which tells of no other page
abbrev pub told_by : Origin → (ℕ → List ℕ) → List (Option (List ℕ))
told_by o bytes_of = map (λ p. if has_page o p then Some (bytes_of p) else None) (range_with_len 0 o.pages)

-- a lane over a store of these contents, none of whose calls failed
abbrev pub share_seen : Origin → (contents : List ℕ) → LaneSeen
share_seen o contents = record { origin = o; told = told_by o (page_bytes o.page_size contents); count = 0 }

-- what a lane in memory tells: it keeps its own pages one after another
abbrev pub memory_told : Origin → (kept : List ℕ) → List (Option (List ℕ))
memory_told o kept = told_by o (λ p. page_bytes o.page_size kept (p / o.stripes))
