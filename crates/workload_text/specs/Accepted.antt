-- What may be relied on of the lines of an accepted text, line by line and without the state that
-- the grammar carries: for those who run workloads.
use Rattle.std.specs.Prelude.{◌≡◌, ℕ, ◌+◌, ◌<◌, ◌≤◌, true, List, [], ◌∷◌, length, All}
use Rattle.page_base.specs.Backings.{Backing}
use Rattle.page_base.specs.declared.limits.TheConstants.{MOST_REGIONS}
use Rattle.workload_text.specs.declared.limits.TheConstants.{MOST_NAME_BYTES, MOST_SCRIPTS, MOST_COMMANDS, MOST_ACCESS_BYTES, MOST_LOADED_BYTES}
use Rattle.workload_text.specs.Line.{Line, map_line, script_line, load_line, store_line, prefetch_line, flush_line, unmap_line}
use Rattle.workload_text.specs.Grammar.{Region, size_at, writable_at, most_size}

-- the regions of the `map` lines, in order
abbrev pub regions_of : List Line → List Region
regions_of [] = []
regions_of (map_line name backing size writable ∷ ls) = record { name = name; size = size; writable = writable } ∷ regions_of ls
regions_of (l ∷ ls) = regions_of ls

abbrev pub script_count : List Line → ℕ
script_count [] = 0
script_count (script_line name ∷ ls) = 1 + script_count ls
script_count (l ∷ ls) = script_count ls

abbrev pub command_count : List Line → ℕ
command_count [] = 0
command_count (map_line name backing size writable ∷ ls) = command_count ls
command_count (script_line name ∷ ls) = command_count ls
command_count (l ∷ ls) = 1 + command_count ls

-- the bytes that all `load` lines load together
abbrev pub loaded_bytes : List Line → ℕ
loaded_bytes [] = 0
loaded_bytes (load_line r off len ∷ ls) = len + loaded_bytes ls
loaded_bytes (l ∷ ls) = loaded_bytes ls

-- the range lies in a region that is there, and is no longer than one access may be
pub record LiesInside (regions : List Region) (r off len : ℕ) : Type 0 where
  pub known : r < length regions
  pub inside : off + len ≤ size_at regions r
  pub short : len ≤ MOST_ACCESS_BYTES

-- a store lies inside a writable region and has at least one byte
pub record StoresInside (regions : List Region) (r off : ℕ) (bytes : List ℕ) : Type 0 where
  pub range : LiesInside regions r off (length bytes)
  pub writable : writable_at regions r ≡ true
  pub some : 1 ≤ length bytes
  pub bytes_all : All (λ b. b < 256) bytes

-- the range lies in a region that is there
pub record HintsInside (regions : List Region) (r off len : ℕ) : Type 0 where
  pub known : r < length regions
  pub inside : off + len ≤ size_at regions r

-- a region has a byte at least, and no more than may be kept so
pub record IsSize (backing : Backing) (size : ℕ) : Type 0 where
  pub least : 1 ≤ size
  pub most : size ≤ most_size backing

-- what one line is good for, among these regions
abbrev pub FitsRegions : List Region → Line → Type 0
FitsRegions regions (map_line name backing size writable) = IsSize backing size
FitsRegions regions (script_line name) = length name ≤ MOST_NAME_BYTES
FitsRegions regions (load_line r off len) = LiesInside regions r off len
FitsRegions regions (store_line r off bytes) = StoresInside regions r off bytes
FitsRegions regions (prefetch_line r off len) = HintsInside regions r off len
FitsRegions regions flush_line = Unit {0}
FitsRegions regions (unmap_line r) = r < length regions

abbrev pub AllFit : List Region → List Line → Type 0
AllFit regions [] = Unit {0}
AllFit regions (l ∷ ls) = FitsRegions regions l × AllFit regions ls

-- the lines can be run: every command fits its region, and the limits hold
pub record IsRunnable (lines : List Line) : Type 0 where
  pub fit : AllFit (regions_of lines) lines
  pub regions : length (regions_of lines) ≤ MOST_REGIONS
  pub scripts : script_count lines ≤ MOST_SCRIPTS
  pub commands : command_count lines ≤ MOST_COMMANDS
  pub loaded : loaded_bytes lines ≤ MOST_LOADED_BYTES
