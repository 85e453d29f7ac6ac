-- Reads and writes that one caller starts and ends, one after the other.
use Rattle.std.specs.Prelude.{Bool, true, false, ◌&&◌, not, if◌then◌else◌, List, [], ◌∷◌, Option, Some, None}
use Rattle.page_base.specs.Pages.{same}
use Rattle.page_base.specs.declared.keys.Key.{Key}
use Rattle.page_model.specs.declared.entry.Entry.{Entry}
use Rattle.page_model.specs.declared.entry.Entry.TheVariants.{StartRead, Filled, ReadFailed, StartWrite, Written, WriteFailed}
use Rattle.page_model.specs.Entries.{is_start, is_end}

-- an entry starts to read this page, or to write it
abbrev pub starts_read : Key → Entry → Bool
starts_read k (StartRead j) = same j k
starts_read k e = false

abbrev pub starts_write : Key → Entry → Bool
starts_write k (StartWrite j cause) = same j k
starts_write k e = false

-- an entry starts what this one ends
abbrev pub is_start_of : (end : Entry) → Entry → Bool
is_start_of (Filled k) e = starts_read k e
is_start_of (ReadFailed k n) e = starts_read k e
is_start_of (Written k at bytes) e = starts_write k e
is_start_of (WriteFailed k n) e = starts_write k e
is_start_of end e = false

-- One caller's entries, the newest first, below this end where there is one: each end stands right on its start, and no start
-- is without its end.
abbrev pub whole_below : Option Entry → List Entry → Bool
whole_below None [] = true
whole_below (Some end) [] = false
whole_below None (e ∷ es) = if is_end e then whole_below (Some e) es else (not (is_start e) && whole_below None es)
whole_below (Some end) (e ∷ es) = is_start_of end e && whole_below None es

-- one caller's entries, the newest first: each end stands right on its start, and no start is without its end
abbrev pub trips_are_whole : List Entry → Bool
trips_are_whole es = whole_below None es
