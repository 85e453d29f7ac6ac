-- The workload language as a relation: which bytes spell which lines, and which lines are allowed
-- behind which. It prints; nothing here reads.
use Rattle.std.specs.Prelude.{◌≡◌, ◌≢◌, ℕ, ◌+◌, ◌<◌, ◌≤◌, ◌&&◌, ◌||◌, ◌==◌, not, nat_le, Bool, true, false, if◌then◌else◌, List, [], ◌∷◌, ◌++◌, length, slice_index, codes, Option, Some, None, All, Contains, zero, suc}
use Rattle.std.specs.Fmt.{decimal}
use Rattle.std.specs.Str.{bytes_eq}
use Rattle.std.specs.List.{list_all, join_with_byte, slice_split}
use Rattle.hex.specs.Hex.{encode_lower}
use Rattle.page_base.specs.Backings.{Backing, in_memory, in_file, in_files}
use Prim.Native.Char.{code}
use Rattle.page_base.specs.declared.limits.TheConstants.{MOST_REGIONS}
use Rattle.workload_text.specs.declared.limits.TheConstants.{MOST_TEXT_BYTES, MOST_NAME_BYTES, MOST_PATH_BYTES, MOST_MEMORY_BYTES, MOST_STORED_BYTES, MOST_SCRIPTS, MOST_COMMANDS, MOST_ACCESS_BYTES, MOST_LOADED_BYTES}
use Rattle.workload_text.specs.Line.{Line, TextLine, says, silent, map_line, script_line, load_line, store_line, prefetch_line, flush_line, unmap_line}

-- a region, as the lines after its own know it
pub record Region : Type 0 where
  pub name : List ℕ
  pub size : ℕ
  pub writable : Bool

-- what the lines so far have said: regions and script names in order, the number of commands, and
-- the bytes that the loads among them load
pub record Said : Type 0 where
  pub regions : List Region
  pub scripts : List (List ℕ)
  pub commands : ℕ
  pub loaded : ℕ

abbrev pub nothing : Said
nothing = record { regions = []; scripts = []; commands = 0; loaded = 0 }

-- what they have said with one more line
abbrev pub after : Said → Line → Said
after s (map_line name backing size writable) = record s { regions = s.regions ++ record { name = name; size = size; writable = writable } ∷ [] }
after s (script_line name) = record s { scripts = s.scripts ++ name ∷ [] }
after s (load_line r off len) = record s { commands = s.commands + 1; loaded = s.loaded + len }
after s l = record s { commands = s.commands + 1 }

-- a letter, a digit or `_`
abbrev pub is_name_byte : ℕ → Bool
is_name_byte c = (nat_le (code "A") c && nat_le c (code "Z")) || ((nat_le (code "a") c && nat_le c (code "z")) || ((nat_le (code "0") c && nat_le c (code "9")) || (c == code "_")))

-- 1 to `MOST_NAME_BYTES` such bytes
abbrev pub is_name : List ℕ → Bool
is_name name = nat_le 1 (length name) && (nat_le (length name) MOST_NAME_BYTES && list_all is_name_byte name)

-- a byte of a name, `.` or `-`
abbrev pub is_path_byte : ℕ → Bool
is_path_byte c = is_name_byte c || (c == code "." || c == code "-")

-- such bytes, at least one, and neither `.` nor `..`
abbrev pub is_component : List ℕ → Bool
is_component c = nat_le 1 (length c) && (list_all is_path_byte c && (not (bytes_eq c (codes ".")) && not (bytes_eq c (codes ".."))))

abbrev pub is_slash : ℕ → Bool
is_slash c = c == code "/"

-- components with one `/` between, at most `MOST_PATH_BYTES`
abbrev pub is_path : List ℕ → Bool
is_path path = nat_le (length path) MOST_PATH_BYTES && list_all is_component (slice_split is_slash path)

abbrev pub name_at : List Region → ℕ → List ℕ
name_at [] r = []
name_at (g ∷ gs) zero = g.name
name_at (g ∷ gs) (suc r) = name_at gs r

abbrev pub size_at : List Region → ℕ → ℕ
size_at [] r = 0
size_at (g ∷ gs) zero = g.size
size_at (g ∷ gs) (suc r) = size_at gs r

abbrev pub writable_at : List Region → ℕ → Bool
writable_at [] r = false
writable_at (g ∷ gs) zero = g.writable
writable_at (g ∷ gs) (suc r) = writable_at gs r

-- the number of the first region of a name, the numbers counted from n
abbrev pub region_from : ℕ → List Region → List ℕ → Option ℕ
region_from n [] name = None
region_from n (g ∷ gs) name = if bytes_eq g.name name then Some n else region_from (n + 1) gs name

abbrev pub region_by_name : Said → List ℕ → Option ℕ
region_by_name s name = region_from 0 s.regions name

abbrev pub mode_text : Bool → List ℕ
mode_text true = codes "rw"
mode_text false = codes "ro"

-- the fields of a line, where the lines before it have said s
abbrev pub fields : Said → Line → List (List ℕ)
fields s (map_line name in_memory size writable) = codes "map" ∷ name ∷ codes "memory" ∷ decimal size ∷ mode_text writable ∷ []
fields s (map_line name (in_file path) size writable) = codes "map" ∷ name ∷ codes "file" ∷ path ∷ decimal size ∷ mode_text writable ∷ []
fields s (map_line name (in_files path file) size writable) = codes "map" ∷ name ∷ codes "sparse" ∷ path ∷ decimal size ∷ decimal file ∷ mode_text writable ∷ []
fields s (script_line name) = codes "script" ∷ name ∷ []
fields s (load_line r off len) = codes "load" ∷ name_at s.regions r ∷ decimal off ∷ decimal len ∷ []
fields s (store_line r off bytes) = codes "store" ∷ name_at s.regions r ∷ decimal off ∷ encode_lower bytes ∷ []
fields s (prefetch_line r off len) = codes "prefetch" ∷ name_at s.regions r ∷ decimal off ∷ decimal len ∷ []
fields s flush_line = codes "flush" ∷ []
fields s (unmap_line r) = codes "unmap" ∷ name_at s.regions r ∷ []

-- a line without its line feed: the fields with one space between
abbrev pub line_text : Said → Line → List ℕ
line_text s l = join_with_byte (code " ") (fields s l)

-- a line of a text, without its line feed
abbrev pub shown : Said → TextLine → List ℕ
shown s (says l) = line_text s l
shown s (silent text) = text

abbrev pub after_text : Said → TextLine → Said
after_text s (says l) = after s l
after_text s (silent text) = s

-- the text of lines behind lines that have said s: each with a line feed
abbrev pub spelled : Said → List TextLine → List ℕ
spelled s [] = []
spelled s (t ∷ ts) = shown s t ++ code "\n" ∷ spelled (after_text s t) ts

-- the longest region that may be kept so, in bytes
abbrev pub most_size : Backing → ℕ
most_size in_memory = MOST_MEMORY_BYTES
most_size (in_file path) = MOST_STORED_BYTES
most_size (in_files path file) = MOST_STORED_BYTES

-- files have a path, and files of a folder a length
abbrev pub IsBacking : Backing → Type 0
IsBacking in_memory = Unit {0}
IsBacking (in_file path) = is_path path ≡ true
IsBacking (in_files path file) = (is_path path ≡ true) × (1 ≤ file) × (file ≤ MOST_STORED_BYTES)

-- a region may come: above all scripts, and there are fewer than the most
pub record MayMap (s : Said) (name : List ℕ) (backing : Backing) (size : ℕ) : Type 0 where
  pub above : s.scripts ≡ []
  pub named : is_name name ≡ true
  pub place : IsBacking backing
  pub least : 1 ≤ size
  pub most : size ≤ most_size backing
  pub few : length s.regions < MOST_REGIONS

-- a script may begin: its name is new, and there are fewer than the most
pub record MayBegin (s : Said) (name : List ℕ) : Type 0 where
  pub named : is_name name ≡ true
  pub fresh : ¬ Contains s.scripts name
  pub few : length s.scripts < MOST_SCRIPTS

-- a command may come: behind a script, and there are fewer than the most
pub record MayCommand (s : Said) : Type 0 where
  pub begun : s.scripts ≢ []
  pub few : s.commands < MOST_COMMANDS

-- it may name a region, which it does as the first of its name
abbrev pub MayName : Said → (region : ℕ) → Type 0
MayName s r = region_by_name s (name_at s.regions r) ≡ Some r

-- a command may reach so many bytes of a region
pub record MayReach (s : Said) (r off len : ℕ) : Type 0 where
  pub command : MayCommand s
  pub first : MayName s r
  pub place : off ≤ MOST_STORED_BYTES
  pub inside : off + len ≤ size_at s.regions r

pub record MayLoad (s : Said) (r off len : ℕ) : Type 0 where
  pub reach : MayReach s r off len
  pub short : len ≤ MOST_ACCESS_BYTES
  pub room : s.loaded + len ≤ MOST_LOADED_BYTES

pub record MayStoreBytes (s : Said) (r off : ℕ) (bytes : List ℕ) : Type 0 where
  pub reach : MayReach s r off (length bytes)
  pub some : 1 ≤ length bytes
  pub short : length bytes ≤ MOST_ACCESS_BYTES
  pub bytes_all : All (λ b. b < 256) bytes
  pub writable : writable_at s.regions r ≡ true

pub record MayPrefetch (s : Said) (r off len : ℕ) : Type 0 where
  pub reach : MayReach s r off len
  pub short : len ≤ MOST_STORED_BYTES

pub record MayUnmapRegion (s : Said) (r : ℕ) : Type 0 where
  pub command : MayCommand s
  pub first : MayName s r

-- what a line may be behind lines that have said s
abbrev pub Allowed : Said → Line → Type 0
Allowed s (map_line name backing size writable) = MayMap s name backing size
Allowed s (script_line name) = MayBegin s name
Allowed s (load_line r off len) = MayLoad s r off len
Allowed s (store_line r off bytes) = MayStoreBytes s r off bytes
Allowed s (prefetch_line r off len) = MayPrefetch s r off len
Allowed s flush_line = MayCommand s
Allowed s (unmap_line r) = MayUnmapRegion s r

-- an empty line, or one that begins with `#`
abbrev pub is_silent : List ℕ → Bool
is_silent text = (length text == 0) || (slice_index text 0 == code "#")

-- a line that says nothing: it may have any other bytes
pub record IsSilent (text : List ℕ) : Type 0 where
  pub marked : is_silent text ≡ true
  pub one_line : All (λ b. b ≢ code "\n") text

abbrev pub AllowedText : Said → TextLine → Type 0
AllowedText s (says l) = Allowed s l
AllowedText s (silent text) = IsSilent text

abbrev pub AllAllowed : Said → List TextLine → Type 0
AllAllowed s [] = Unit {0}
AllAllowed s (t ∷ ts) = AllowedText s t × AllAllowed (after_text s t) ts

-- the bytes are the text of these lines, which are allowed where they stand
pub record IsText (bytes : List ℕ) (texts : List TextLine) : Type 0 where
  pub spelt : bytes ≡ spelled nothing texts
  pub allowed : AllAllowed nothing texts
  pub short : length bytes ≤ MOST_TEXT_BYTES

-- what the lines of a text say
abbrev pub lines_in : List TextLine → List Line
lines_in [] = []
lines_in (says l ∷ ts) = l ∷ lines_in ts
lines_in (silent text ∷ ts) = lines_in ts

-- the bytes are the spelling of these lines, with silent lines in between
pub record Spells (bytes : List ℕ) (lines : List Line) : Type 0 where
  pub texts : List TextLine
  pub text : IsText bytes texts
  pub lines_are : lines_in texts ≡ lines
