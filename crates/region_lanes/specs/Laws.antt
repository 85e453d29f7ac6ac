-- What the clauses on opening and closing say together, as statements.
use Rattle.std.specs.Prelude.{◌≡◌, ℕ, ◌*◌, ◌/◌, ◌<◌, ◌≤◌, true, false, List, [], ◌++◌, length, drop, slice_get, Some}
use Rattle.std.specs.List.{AllByRecursion, Contains}
use Rattle.page_base.specs.Backings.{in_file}
use Rattle.page_base.specs.Lanes.{LaneSeen}
use Rattle.file_store.specs.Parts.{PartName}
use Rattle.file_store.specs.Shelves.{Shelf, file_at}
use Rattle.region_table.specs.Regions.{NamedRegion}
use Rattle.region_table.specs.Rules.{keeps_rules}
use Rattle.script_run.specs.Contents.{origins_of}
use Rattle.region_lanes.specs.Closings.{rows_flat, is_at, IsOut, AllOut, EachIsClosed, AreTheirParts, AreDistinct, ClosesAll}
use Rattle.region_lanes.specs.Regions.{AreLanes, AreOpened, TellContents, first_bytes}

-- no two regions lie in one file
abbrev pub AreApart : List NamedRegion → Type 0
AreApart regions = (q r : ℕ) (g h : NamedRegion) (path : List ℕ) → slice_get regions q ≡ Some g → slice_get regions r ≡ Some h → g.backing ≡ in_file path → h.backing ≡ in_file path → q ≡ r

-- regions that keep the rules lie apart
abbrev pub RulesKeepApart : Type 0
RulesKeepApart = (page_size : ℕ) (regions : List NamedRegion) → keeps_rules page_size [] regions ≡ true → AreApart regions

-- lanes that were just opened tell the first bytes of each region
abbrev pub OpenedLanesTell : Type 0
OpenedLanesTell =
    (s : Shelf) (n stripes : ℕ) (regions : List NamedRegion) (rows : List (List LaneSeen)) (r : ℕ) (g : NamedRegion)
    → AreOpened (Some s) n stripes regions rows → 0 < stripes → slice_get regions r ≡ Some g
    → TellContents n stripes rows r g.size (first_bytes s.files g)

-- what the lanes of a region tell stands in its file once all lanes are closed, and the file's further bytes are as they were
abbrev pub FilesHoldTheTold : Type 0
FilesHoldTheTold =
    (n stripes : ℕ) (regions : List NamedRegion) (rows : List (List LaneSeen)) (r : ℕ) (g : NamedRegion) (path contents before : List ℕ) (old new : Shelf)
    → AreLanes n stripes regions rows → AreApart regions → 0 < n → 0 < stripes
    → slice_get regions r ≡ Some g → g.backing ≡ in_file path → g.size ≡ g.size / n * n
    → length contents ≡ g.size → g.size ≤ length before → file_at old.files path ≡ Some before
    → TellContents n stripes rows r g.size contents → ClosesAll (rows_flat rows) old new
    → file_at new.files path ≡ Some (contents ++ drop g.size before)

-- no part is out once each part's lane is closed
abbrev pub NoPartStays : Type 0
NoPartStays = (ls : List LaneSeen) (old new : Shelf) → EachIsClosed ls old.out → ClosesAll ls old new → new.out ≡ []

-- lanes whose parts are out, no two of one part, can be closed in any order
abbrev pub DistinctAreOut : Type 0
DistinctAreOut = (ls : List LaneSeen) (out : List PartName) → AllByRecursion (λ (l : LaneSeen). IsOut l out) ls → AreDistinct ls → AllOut ls out

-- the lanes of regions that share no file have a part of their own each
abbrev pub LanesAreDistinct : Type 0
LanesAreDistinct = (n stripes : ℕ) (regions : List NamedRegion) (rows : List (List LaneSeen)) → AreLanes n stripes regions rows → AreApart regions → AreDistinct (rows_flat rows)

-- a file that no lane lies in is as before
abbrev pub OtherFilesStay : Type 0
OtherFilesStay =
    (path : List ℕ) (ls : List LaneSeen) (old new : Shelf) → ((l : LaneSeen) → Contains ls l → is_at path l.origin.backing ≡ false)
    → ClosesAll ls old new → file_at new.files path ≡ file_at old.files path

-- the same lanes have the same parts, whatever they tell
abbrev pub PartsAreByOrigins : Type 0
PartsAreByOrigins =
    (rows ends : List (List LaneSeen)) (out : List PartName) → origins_of ends ≡ origins_of rows
    → AreTheirParts (rows_flat rows) out → AreTheirParts (rows_flat ends) out

-- and are lanes of the same regions
abbrev pub LanesAreByOrigins : Type 0
LanesAreByOrigins =
    (n stripes : ℕ) (regions : List NamedRegion) (rows ends : List (List LaneSeen)) → origins_of ends ≡ origins_of rows
    → AreLanes n stripes regions rows → AreLanes n stripes regions ends
