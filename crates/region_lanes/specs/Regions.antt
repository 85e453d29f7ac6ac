-- The lanes of all regions: as they were just opened, what stopped their opening, and what they tell of a region.
use Rattle.std.specs.Prelude.{◌≡◌, ℕ, ◌+◌, ◌*◌, ◌/◌, ◌%◌, ◌<◌, ◌≤◌, ⊤, Bool, true, false, not, List, [], length, take, replicate, slice_get, slice_index_or, Option, Some, None, unwrap_or, IfSome}
use Rattle.std.specs.List.{list_all}
use Rattle.page_base.specs.Backings.{Backing, in_memory, in_file, in_files}
use Rattle.page_base.specs.Lanes.{Origin, LaneSeen, Rose, told_at, all_there}
use Rattle.store_trait.specs.Memory.{told_by, page_bytes}
use Rattle.file_store.specs.Folders.{IsShort, Suffices}
use Rattle.file_store.specs.Parts.{PartName, WhereTold}
use Rattle.file_store.specs.Shelves.{File, Shelf, FolderSeen, file_at}
use Rattle.file_store.specs.declared.folder.FolderFault.{FolderFault}
use Rattle.file_store.specs.declared.folder.FolderFault.TheVariants.{Missing, TooShort, Failed, OutOfMemory}
use Rattle.region_table.specs.Regions.{NamedRegion}
use Rattle.region_table.specs.Rules.{keeps_rules}
use Rattle.workload_text.specs.Line.{Line}
use Rattle.workload_text.specs.Accepted.{IsRunnable}
use Rattle.script_run.specs.FitsSerial.{lane_at}
use Rattle.script_run.specs.Tables.{regions_seen}
use Rattle.script_run.specs.declared.settings.Settings.{Settings}
use Rattle.serial_pager.specs.Pagers.{rows_of}
use Rattle.store_trait.specs.declared.mem_store.LaneSet.{LaneSet}
use Rattle.region_lanes.specs.Closings.{AreTheirParts, rows_flat}
use Rattle.region_lanes.specs.declared.open.LaneStop.{LaneStop}

-- ---- which regions can be opened

abbrev pub is_folder : Backing → Bool
is_folder in_memory = false
is_folder (in_file path) = false
is_folder (in_files path file) = true

-- no region lies in a folder of files: such stores aren't built yet
abbrev pub has_no_folders : List NamedRegion → Bool
has_no_folders regions = list_all (λ (g : NamedRegion). not (is_folder g.backing)) regions

-- the regions of these lines can be opened with pages of this size: they keep the rules, and each has a store that is built
pub record CanBeOpened (page_size : ℕ) (lines : List Line) : Type 0 where
  pub runnable : IsRunnable lines
  pub rules : keeps_rules page_size [] (regions_seen lines) ≡ true
  pub no_folders : has_no_folders (regions_seen lines) ≡ true

-- no part is out, where files are told
abbrev pub NoPartIsOut : FolderSeen → Type 0
NoPartIsOut folder = IfSome folder.told (λ s. s.out ≡ [])

-- ---- lanes

-- this holds of what is seen of the lanes
abbrev pub OfLanes : {S : Type 0} → (S → LaneSeen) → (List (List LaneSeen) → Type 0) → LaneSet S → Type 0
OfLanes seen P lanes = P (rows_of seen lanes)

-- one stripe's share of a region
abbrev pub region_origin : (page_size stripes stripe region : ℕ) → NamedRegion → Origin
region_origin page_size stripes stripe region g =
    record { backing = g.backing; region = region; pages = g.size / page_size; page_size = page_size; group = 1; stripes = stripes; stripe = stripe; there = all_there }

-- one lane for each stripe and region: for each stripe in order its lanes, in order of region
pub record AreLanes (page_size stripes : ℕ) (regions : List NamedRegion) (rows : List (List LaneSeen)) : Type 0 where
  pub count : length rows ≡ stripes
  pub width : (s : ℕ) → s < stripes → length (slice_index_or rows s []) ≡ length regions
  pub origin : (s r : ℕ) (g : NamedRegion) → s < stripes → slice_get regions r ≡ Some g → (lane_at rows s r).origin ≡ region_origin page_size stripes s r g

-- the lanes tell these bytes of a region, page by page
abbrev pub TellContents : (page_size stripes : ℕ) → List (List LaneSeen) → (region size : ℕ) → (contents : List ℕ) → Type 0
TellContents page_size stripes rows region size contents =
    (p : ℕ) → p < size / page_size → told_at (lane_at rows ((region + p) % stripes) region).told p ≡ Some (page_bytes page_size contents p)

-- ---- lanes that were just opened

abbrev pub bytes_in : List File → Backing → (size : ℕ) → List ℕ
bytes_in files in_memory size = replicate size 0
bytes_in files (in_file path) size = take size (unwrap_or (file_at files path) [])
bytes_in files (in_files path file) size = []

-- what a region holds when it is opened: zeros in memory, else the first bytes of its file
abbrev pub first_bytes : List File → NamedRegion → List ℕ
first_bytes files g = bytes_in files g.backing g.size

-- what a lane tells: its own pages of these bytes
abbrev pub TellsShare : LaneSeen → (contents : List ℕ) → Type 0
TellsShare l contents = l.told ≡ told_by l.origin (page_bytes l.origin.page_size contents)

-- a lane in memory tells zeros, one in a file its own pages of the file, where files are told
abbrev pub IsOpenedIn : Backing → (told : Option Shelf) → NamedRegion → LaneSeen → Type 0
IsOpenedIn in_memory told g l = TellsShare l (replicate g.size 0)
IsOpenedIn (in_file path) told g l = IfSome told (λ s. TellsShare l (first_bytes s.files g))
IsOpenedIn (in_files path file) told g l = ⊥

-- the region's file, if it lies in one, is there and long enough
abbrev pub OpensWell : List File → Backing → (size : ℕ) → Type 0
OpensWell files in_memory size = ⊤
OpensWell files (in_file path) size = Suffices size (file_at files path)
OpensWell files (in_files path file) size = ⊥

-- lanes of these regions that were just opened, where the folder told this
pub record AreOpened (told : Option Shelf) (page_size stripes : ℕ) (regions : List NamedRegion) (rows : List (List LaneSeen)) : Type 0 where
  pub lanes : AreLanes page_size stripes regions rows
  pub fresh : (s r : ℕ) → s < stripes → r < length regions → (lane_at rows s r).count ≡ 0
  pub tells : (s r : ℕ) (g : NamedRegion) → s < stripes → slice_get regions r ≡ Some g → IsOpenedIn g.backing told g (lane_at rows s r)
  pub well : IfSome told (λ shelf. (r : ℕ) (g : NamedRegion) → slice_get regions r ≡ Some g → OpensWell shelf.files g.backing g.size)

-- the lanes of the regions of these lines, over the folder's files, with pages by the settings
abbrev pub AreOpenedFor : FolderSeen → Settings → List Line → List (List LaneSeen) → Type 0
AreOpenedFor folder settings lines rows =
    AreOpened folder.told settings.layout.page_size settings.layout.stripes (regions_seen lines) rows

-- the files are as before, and the parts that are out are the lanes'
pub record TakesOut (rows : List (List LaneSeen)) (old new : Shelf) : Type 0 where
  pub files : new.files ≡ old.files
  pub parts : AreTheirParts (rows_flat rows) new.out

-- where files are told
abbrev pub AreTakenOut : (old new : FolderSeen) → List (List LaneSeen) → Type 0
AreTakenOut old new rows = WhereTold (TakesOut rows) old.told new.told

-- ---- an opening that stopped

-- the refusal of a region, as its file shows it
abbrev pub ShowsFault : List File → Backing → (size : ℕ) → FolderFault → Type 0
ShowsFault files (in_file path) size Missing = file_at files path ≡ None
ShowsFault files (in_file path) size (TooShort have need) = (need ≡ size) × IsShort (file_at files path) have size
ShowsFault files (in_file path) size (Failed faults) = Suffices size (file_at files path)
ShowsFault files (in_file path) size OutOfMemory = ⊤
ShowsFault files in_memory size OutOfMemory = ⊤
ShowsFault files (in_files path file) size OutOfMemory = ⊤
ShowsFault files in_memory size Missing = ⊥
ShowsFault files in_memory size (TooShort have need) = ⊥
ShowsFault files in_memory size (Failed faults) = ⊥
ShowsFault files (in_files path file) size Missing = ⊥
ShowsFault files (in_files path file) size (TooShort have need) = ⊥
ShowsFault files (in_files path file) size (Failed faults) = ⊥

-- want of memory may come before any region is looked at
abbrev pub ShowsAt : List File → Option NamedRegion → FolderFault → Type 0
ShowsAt files (Some g) fault = ShowsFault files g.backing g.size fault
ShowsAt files None OutOfMemory = ⊤
ShowsAt files None Missing = ⊥
ShowsAt files None (TooShort have need) = ⊥
ShowsAt files None (Failed faults) = ⊥

-- this region is the first in order whose opening refused, with that refusal
pub record StopsAt (regions : List NamedRegion) (stop : LaneStop) (files : List File) : Type 0 where
  pub shows : ShowsAt files (slice_get regions stop.region) stop.fault
  pub before : (r : ℕ) (g : NamedRegion) → r < stop.region → slice_get regions r ≡ Some g → OpensWell files g.backing g.size

-- of the regions of these lines, where files are told
abbrev pub StopsRightly : FolderSeen → List Line → LaneStop → Type 0
StopsRightly folder lines stop = IfSome folder.told (λ s. StopsAt (regions_seen lines) stop s.files)

-- a failed call raised the folder's count, to the one that is told; closing what was opened may have raised it further
abbrev pub StopCause : (before now : ℕ) → FolderFault → Type 0
StopCause before now (Failed faults) = Rose before faults × (faults ≤ now)
StopCause before now Missing = ⊤
StopCause before now (TooShort have need) = ⊤
StopCause before now OutOfMemory = ⊤

abbrev pub HasStopCause : (old new : FolderSeen) → LaneStop → Type 0
HasStopCause old new stop = StopCause old.count new.count stop.fault

-- each file is as before, and the same parts are out
pub record HasSame (old new : Shelf) : Type 0 where
  pub files : (path : List ℕ) → file_at new.files path ≡ file_at old.files path
  pub out : new.out ≡ old.out

-- where files are told
abbrev pub IsAsBefore : (old new : FolderSeen) → Type 0
IsAsBefore old new = WhereTold HasSame old.told new.told
