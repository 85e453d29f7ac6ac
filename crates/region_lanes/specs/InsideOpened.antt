-- Lanes that were just opened, region by region, and the parts that are out meanwhile.
use Rattle.std.specs.Prelude.{◌≡◌, ℕ, ◌+◌, ◌*◌, ◌/◌, ◌<◌, ◌≤◌, ⊤, true, false, List, [], ◌∷◌, ◌++◌, length, map, replicate, take, slice_get, slice_index_or, Option, Some, IfSome, Result, Ok, Err, IfOk}
use Rattle.std.specs.List.{Contains}
use Rattle.page_base.specs.Backings.{Backing, in_memory, in_file, in_files}
use Rattle.page_base.specs.ListSeen.{ListSeen}
use Rattle.page_base.specs.Lanes.{LaneSeen}
use Rattle.page_base.specs.declared.layout.Layout.{Layout}
use Rattle.page_base.specs.declared.limits.TheConstants.{MOST_PAGES}
use Rattle.store_trait.specs.Memory.{memory_origin, share_seen}
use Rattle.file_store.specs.Parts.{striped, PartName, PartSeen, WhereTold, told_pieces}
use Rattle.file_store.specs.Shelves.{Shelf, FolderSeen, file_at, any_out}
use Rattle.file_store.specs.FileLanes.{is_striped}
use Rattle.file_store.specs.Folders.{stripe_origin, stripe_names, reached_bytes}
use Rattle.file_store.specs.declared.folder.Cut.{Cut}
use Rattle.file_store.specs.declared.folder.FolderFault.{FolderFault}
use Rattle.region_table.specs.Regions.{NamedRegion}
use Rattle.workload_text.specs.declared.workload.MapLine.{MapLine}
use Rattle.script_run.specs.Contents.{no_lane}
use Rattle.script_run.specs.FitsSerial.{lane_at}
use Rattle.script_run.specs.RegionRules.{named_region}
use Rattle.serial_pager.specs.Pagers.{rows_by}
use Rattle.region_lanes.specs.Closings.{IsOut, HasPart}
use Rattle.region_lanes.specs.Regions.{region_origin, IsOpenedIn, OpensWell, ShowsFault, ShowsAt, AreOpened, is_folder, StopCause}
use Rattle.region_lanes.specs.Laws.{AreApart}
use Rattle.region_lanes.specs.declared.open.LaneStop.{LaneStop}

-- what is seen of lanes
abbrev pub seen_in : {S : Type 0} → (S → LaneSeen) → ListSeen S → List LaneSeen
seen_in seen lanes = map seen lanes.items

abbrev pub OfRow : {S : Type 0} → (S → LaneSeen) → (List LaneSeen → Type 0) → ListSeen S → Type 0
OfRow seen P lanes = P (seen_in seen lanes)

abbrev pub OfRows : {S : Type 0} → (S → LaneSeen) → (List (List LaneSeen) → Type 0) → List (ListSeen S) → Type 0
OfRows seen P rows = P (rows_by seen rows)

-- ---- one region

-- the part is one stripe's, and has a file
pub record IsStriped (part : PartSeen) : Type 0 where
  pub made : part.made ≡ true
  pub striped : is_striped part.name.extent ≡ true

-- one stripe's lane of a file, which tells the file's first bytes where files are told
pub record IsFileLane (told : Option Shelf) (path : List ℕ) (cut : Cut) (stripe : ℕ) (l : LaneSeen) : Type 0 where
  pub origin : l.origin ≡ stripe_origin path cut stripe
  pub fresh : l.count ≡ 0
  pub tells : IfSome told (λ s. l.told ≡ told_pieces (striped (stripe_origin path cut stripe)) (reached_bytes (striped (stripe_origin path cut stripe)) (file_at s.files path)))

-- one lane of the file for each stripe
pub record AreFileLanes (folder : FolderSeen) (path : List ℕ) (cut : Cut) (lanes : List LaneSeen) : Type 0 where
  pub count : length lanes ≡ cut.layout.stripes
  pub each : (s : ℕ) (l : LaneSeen) → slice_get lanes s ≡ Some l → IsFileLane folder.told path cut s l

-- one lane of a region of so many zeros in memory for each stripe
pub record AreZeroShares (layout : Layout) (region bytes : ℕ) (lanes : List LaneSeen) : Type 0 where
  pub count : length lanes ≡ layout.stripes
  pub each : (s : ℕ) (l : LaneSeen) → slice_get lanes s ≡ Some l
      → l ≡ share_seen (memory_origin region (bytes / layout.page_size) layout.page_size layout.stripes s) (replicate bytes 0)

-- one stripe's lane of a region
pub record IsRegionLane (told : Option Shelf) (layout : Layout) (region : ℕ) (g : NamedRegion) (stripe : ℕ) (l : LaneSeen) : Type 0 where
  pub origin : l.origin ≡ region_origin layout.page_size layout.stripes stripe region g
  pub fresh : l.count ≡ 0
  pub tells : IsOpenedIn g.backing told g l

-- one lane of the region for each stripe
pub record AreRegionLanes (folder : FolderSeen) (layout : Layout) (region : ℕ) (g : NamedRegion) (lanes : List LaneSeen) : Type 0 where
  pub count : length lanes ≡ layout.stripes
  pub each : (s : ℕ) (l : LaneSeen) → slice_get lanes s ≡ Some l → IsRegionLane folder.told layout region g s l

-- whole pages, at least one, and no more than a table has
pub record HasGoodSize (page_size : ℕ) (g : NamedRegion) : Type 0 where
  pub some : 0 < g.size
  pub whole : g.size ≡ g.size / page_size * page_size
  pub few : g.size / page_size ≤ MOST_PAGES

-- the parts of a region's lanes
abbrev pub names_in : Backing → Cut → List PartName
names_in in_memory cut = []
names_in (in_file path) cut = stripe_names path cut
names_in (in_files path file) cut = []

abbrev pub cut_of : Layout → (region : ℕ) → NamedRegion → Cut
cut_of layout region g = record { region = region; pages = g.size / layout.page_size; layout = layout; writable = g.writable }

abbrev pub names_of : Layout → (region : ℕ) → MapLine → List PartName
names_of layout region line = names_in (named_region line).backing (cut_of layout region (named_region line))

abbrev pub AreOpenedHere : FolderSeen → Layout → (region : ℕ) → MapLine → List LaneSeen → Type 0
AreOpenedHere folder layout region line lanes = AreRegionLanes folder layout region (named_region line) lanes

abbrev pub NoneOutIn : Backing → List PartName → Type 0
NoneOutIn in_memory out = ⊤
NoneOutIn (in_file path) out = any_out path out ≡ false
NoneOutIn (in_files path file) out = ⊤

-- no part of the region's file is out
abbrev pub NoneOutOf : NamedRegion → FolderSeen → Type 0
NoneOutOf g folder = IfSome folder.told (λ s. NoneOutIn g.backing s.out)

-- the region's file is there and long enough, or shows the refusal
abbrev pub ShowsOpening : {T : Type 0} → FolderSeen → NamedRegion → Result T FolderFault → Type 0
ShowsOpening folder g (Ok lanes) = IfSome folder.told (λ s. OpensWell s.files g.backing g.size)
ShowsOpening folder g (Err fault) = IfSome folder.told (λ s. ShowsFault s.files g.backing g.size fault)

-- ---- region by region

-- the regions have good sizes and stores that are built, and no two lie in one file
pub record AreGood (page_size : ℕ) (regions : List NamedRegion) : Type 0 where
  pub size : (r : ℕ) (g : NamedRegion) → slice_get regions r ≡ Some g → HasGoodSize page_size g
  pub built : (r : ℕ) (g : NamedRegion) → slice_get regions r ≡ Some g → is_folder g.backing ≡ false
  pub apart : AreApart regions

-- each row has room for so many lanes more
abbrev pub HaveRoom : {S : Type 0} → (more : ℕ) → List (ListSeen S) → Type 0
HaveRoom {S} more rows = (s : ℕ) (row : ListSeen S) → slice_get rows s ≡ Some row → more ≤ row.spare

-- each row has got a lane more
pub record PutsRegionLanes (lanes : List LaneSeen) (old new : List (List LaneSeen)) : Type 0 where
  pub count : length new ≡ length old
  pub each : (s : ℕ) → s < length old → slice_index_or new s [] ≡ slice_index_or old s [] ++ slice_index_or lanes s no_lane ∷ []

-- the files are as before, and the parts that are out are those of the first k regions' lanes
pub record HasOut (stripes k : ℕ) (rows : List (List LaneSeen)) (old new : Shelf) : Type 0 where
  pub files : new.files ≡ old.files
  pub out : (s r : ℕ) → s < stripes → r < k → IsOut (lane_at rows s r) new.out
  pub no_other : (x : PartName) → Contains new.out x → (s : ℕ) × (r : ℕ) × (s < stripes) × (r < k) × HasPart x (lane_at rows s r)

-- the lanes of the first k regions are opened
pub record OpensFirst (k : ℕ) (layout : Layout) (regions : List NamedRegion) (rows : List (List LaneSeen)) (old new : FolderSeen) : Type 0 where
  pub few : k ≤ length regions
  pub opened : AreOpened old.told layout.page_size layout.stripes (take k regions) rows
  pub out : WhereTold (HasOut layout.stripes k rows) old.told new.told

-- how many regions were opened
abbrev pub count_opened : (all : ℕ) → Result (Unit {0}) LaneStop → ℕ
count_opened all (Ok u) = all
count_opened all (Err stop) = stop.region

-- the lanes of the regions before the one that refused, or of all, are opened
abbrev pub OpensSome : Layout → List MapLine → Result (Unit {0}) LaneStop → (old new : FolderSeen) → List (List LaneSeen) → Type 0
OpensSome layout lines result old new rows = OpensFirst (count_opened (length lines) result) layout (map named_region lines) rows old new

-- the region shows the refusal, and the folder's count its cause
pub record StopsOn (lines : List MapLine) (old new : FolderSeen) (stop : LaneStop) : Type 0 where
  pub shows : IfSome old.told (λ s. ShowsAt s.files (slice_get (map named_region lines) stop.region) stop.fault)
  pub cause : StopCause old.count new.count stop.fault
