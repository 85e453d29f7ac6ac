-- One lane that is closed, and rows of them.
use Rattle.std.specs.Prelude.{ℕ, ◌<◌, List, IfSome}
use Rattle.page_base.specs.Lanes.{LaneSeen, Rose}
use Rattle.page_base.specs.ListSeen.{ListSeen}
use Rattle.file_store.specs.Parts.{WhereTold}
use Rattle.file_store.specs.Shelves.{FolderSeen}
use Rattle.serial_pager.specs.Pagers.{rows_by}
use Rattle.region_lanes.specs.Closings.{IsOut, ClosesLane, rows_flat}

abbrev pub flat_rows : {S : Type 0} → (S → LaneSeen) → List (ListSeen S) → List LaneSeen
flat_rows seen rows = rows_flat (rows_by seen rows)

-- the lane is in memory, or its part is out, where files are told
abbrev pub IsOutOf : LaneSeen → FolderSeen → Type 0
IsOutOf l folder = IfSome folder.told (λ s. IsOut l s.out)

module _ {F : Type 0} (seen : F → FolderSeen) (old new : F) where
  -- the lane's part was closed, where files are told
  abbrev pub IsClosed : LaneSeen → Type 0
  IsClosed l = WhereTold (ClosesLane l) (seen old).told (seen new).told

  -- the folder's count rose, if the lane's is above 0
  abbrev pub FaultShows : LaneSeen → Type 0
  FaultShows l = 0 < l.count → Rose (seen old).count (seen new).count
