-- What a run answers and what it leaves of told files.
use Rattle.std.specs.Prelude.{◌≡◌, ℕ, Bool, true, false, ◌||◌, List, [], ◌++◌, map, drop, slice_get, Option, Some, None, is_some, unwrap_or, option_map, IfSome}
use Rattle.std.specs.List.{list_any, list_all}
use Rattle.page_base.specs.Backings.{Backing, in_memory, in_file, in_files}
use Rattle.page_base.specs.Lanes.{LaneSeen}
use Rattle.file_store.specs.Parts.{WhereTold}
use Rattle.file_store.specs.Shelves.{File, Shelf, FolderSeen, file_at}
use Rattle.region_table.specs.Regions.{NamedRegion}
use Rattle.workload_text.specs.Line.{Line}
use Rattle.flat_lines.specs.FlatRegions.{bytes_at}
use Rattle.script_run.specs.Serial.{serial_text, serial_end}
use Rattle.script_run.specs.Contents.{contents_of}
use Rattle.flat_lines.specs.Spreads.{Spread}
use Rattle.script_run.specs.FitsSerial.{FitsSerial}
use Rattle.script_run.specs.Tables.{regions_seen}
use Rattle.region_lanes.specs.Closings.{is_at}
use Rattle.region_lanes.specs.Regions.{AreOpened, first_bytes}
use Rattle.call_words.specs.Calls.{SettingsSeen}

-- ---- before a run

abbrev pub is_memory : Backing → Bool
is_memory in_memory = true
is_memory (in_file path) = false
is_memory (in_files path file) = false

-- what every region holds is told: the files are, or no region lies in one
abbrev pub tells_all : FolderSeen → List Line → Bool
tells_all folder lines = is_some folder.told || list_all (λ (g : NamedRegion). is_memory g.backing) (regions_seen lines)

abbrev pub files_of : Option Shelf → List File
files_of None = []
files_of (Some s) = s.files

-- what each region holds at first: zeros in memory, else the first bytes of its file
abbrev pub first_contents : FolderSeen → List Line → List (List ℕ)
first_contents folder lines = map (first_bytes (files_of folder.told)) (regions_seen lines)

-- ---- behind it

-- where the region lies in a file, that file holds these contents and, behind them, its further bytes
abbrev pub KeepsIn : Backing → (size : ℕ) → (contents : List ℕ) → (old new : List File) → Type 0
KeepsIn (in_file path) size contents old new = IfSome (file_at old path) (λ before. file_at new path ≡ Some (contents ++ drop size before))
KeepsIn in_memory size contents old new = Unit {0}
KeepsIn (in_files path file) size contents old new = Unit {0}

-- the files of the regions hold these contents, and each file that holds no region is as before
pub record Leaves (regions : List NamedRegion) (contents : List (List ℕ)) (old new : Shelf) : Type 0 where
  pub kept : (r : ℕ) (g : NamedRegion) → slice_get regions r ≡ Some g → KeepsIn g.backing g.size (bytes_at contents r) old.files new.files
  pub others : (path : List ℕ) → list_any (λ (g : NamedRegion). is_at path g.backing) regions ≡ false → file_at new.files path ≡ file_at old.files path

-- where files are told
abbrev pub LeavesTold : List Line → (contents : List (List ℕ)) → (old new : FolderSeen) → Type 0
LeavesTold lines contents old new = WhereTold (Leaves (regions_seen lines) contents) old.told new.told

abbrev pub spread_by : SettingsSeen → Spread
spread_by s = record { page_size = s.page_size; stripes = s.stripes; group_of = λ region. 1 }

-- The lines ran over lanes that were opened over the folder's files, `rows` at first and `ends` in the end: the replies, whether
-- one of them names a fault or a last write failed, and the files are what a serial run may answer and leave
pub record Runs (s : SettingsSeen) (lines : List Line) (old new : FolderSeen) (text : List ℕ) (faulted : Bool) : Type 0 where
  pub rows : List (List LaneSeen)
  pub ends : List (List LaneSeen)
  pub loaded : ℕ
  pub sum : ℕ
  pub opened : AreOpened old.told s.page_size s.stripes (regions_seen lines) rows
  pub fits : FitsSerial (spread_by s) lines rows ends (record { text = text; faulted = faulted; loaded = loaded; sum = sum })
  pub files : LeavesTold lines (contents_of ends) old new

-- The serial meaning, where all is told: the replies are its text over what the regions held at first, and the files hold what
-- it leaves
pub record RunsPlainly (lines : List Line) (old new : FolderSeen) (text : List ℕ) : Type 0 where
  pub text_is : tells_all old lines ≡ true → text ≡ serial_text (first_contents old lines) lines
  pub files : LeavesTold lines (serial_end (first_contents old lines) lines) old new
