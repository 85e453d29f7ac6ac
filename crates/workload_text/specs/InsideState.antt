-- What has been read so far, and what one more line does to it: the terms in which the reader's own
-- methods are stated. No caller needs them.
use Rattle.std.specs.Prelude.{◌≡◌, ◌≤◌, ℕ, Bool, List, [], ◌∷◌, ◌++◌, length, map, Option, Some, None, Result, Ok, Err}
use Rattle.std.specs.List.{flat_map}
use Rattle.std.specs.Result.{IsOkAnd}
use Rattle.page_base.specs.declared.limits.TheConstants.{MOST_REGIONS}
use Rattle.workload_text.specs.declared.limits.TheConstants.{MOST_LOADED_BYTES}
use Rattle.workload_text.specs.Line.{Line, TextLine, says, map_line}
use Rattle.workload_text.specs.View.{region, region_line, script_lines, backing_of}
use Rattle.workload_text.specs.Reading.{as_region}
use Rattle.workload_text.specs.Grammar.{Said, after_text, lines_in}
use Rattle.workload_text.specs.Refusals.{RefusedAt}
use Rattle.workload_text.specs.declared.workload.MapLine.{MapLine}
use Rattle.workload_text.specs.declared.workload.Script.{Script}
use Rattle.workload_text.specs.declared.workload.StoreKind.{StoreKind}
use Rattle.workload_text.specs.declared.reading.Reading.{Reading}
use Rattle.workload_text.specs.declared.refusal.TextKind.{TextKind}
use Rattle.workload_text.specs.declared.refusal.LineFault.{LineFault}
use Rattle.workload_text.specs.declared.refusal.LineFault.TheVariants.{Refused, OutOfMemory}

abbrev pub script_name : Script → List ℕ
script_name s = s.name.items

abbrev pub open_lines : Option Script → List Line
open_lines None = []
open_lines (Some s) = script_lines s

abbrev pub open_names : Option Script → List (List ℕ)
open_names None = []
open_names (Some s) = script_name s ∷ []

-- the lines read so far
abbrev pub lines_so_far : List MapLine → List Script → Option Script → List Line
lines_so_far maps scripts current = map region_line maps ++ (flat_map script_lines scripts ++ open_lines current)

-- what they have said
abbrev pub said : List MapLine → List Script → Option Script → ℕ → ℕ → Said
said maps scripts current commands loaded = record {
  regions = map region maps;
  scripts = map script_name scripts ++ open_names current;
  commands = commands;
  loaded = loaded;
}

abbrev pub said_by : Reading → Said
said_by r = said r.maps.items r.scripts.items r.current r.commands r.loaded

abbrev pub lines_by : Reading → List Line
lines_by r = lines_so_far r.maps.items r.scripts.items r.current

-- above the first `script` line no script is kept
abbrev pub Begun : Option Script → List Script → Type 0
Begun None scripts = scripts ≡ []
Begun (Some s) scripts = Unit {0}

-- what every line leaves true
pub record IsSound (r : Reading) : Type 0 where
  pub begun : Begun r.current r.scripts.items
  pub few : length r.maps.items ≤ MOST_REGIONS
  pub small : r.loaded ≤ MOST_LOADED_BYTES

-- the `map` line of such a region
abbrev pub as_map : (name : List ℕ) → StoreKind → (size : ℕ) → (writable : Bool) → Said → Result Line TextKind
as_map name kind size writable s = as_region s (map_line name (backing_of kind) size writable)

-- the numbers of the `map` lines, with this line too, which is line n
abbrev pub with_number : List ℕ → ℕ → TextLine → List ℕ
with_number ns n (says (map_line name backing size writable)) = ns ++ n ∷ []
with_number ns n t = ns

-- the line, which is line n, stands behind those read before it
pub record Took (n : ℕ) (old new : Reading) (t : TextLine) : Type 0 where
  pub lines : lines_by new ≡ lines_by old ++ lines_in (t ∷ [])
  pub says_so : said_by new ≡ after_text (said_by old) t
  pub numbers : new.map_lines.items ≡ with_number old.map_lines.items n t
  pub sound : IsSound new

-- what is read as a line is taken, what is refused is refused for its kind; want of memory is free
abbrev pub Takes : {U : Type 0} → Reading → Reading → Result Line TextKind → Result U LineFault → Type 0
Takes old new read (Ok u) = IsOkAnd read (λ l. Took old.line old new (says l))
Takes old new read (Err OutOfMemory) = Unit {0}
Takes old new read (Err (Refused kind)) = read ≡ Err kind

-- the same of what is read behind all that was said so far
abbrev pub TakesBy : {U : Type 0} → Reading → Reading → (Said → Result Line TextKind) → Result U LineFault → Type 0
TakesBy old new reads result = Takes old new (reads (said_by old)) result

-- the same of line n, which may say nothing
abbrev pub TakesText : {U : Type 0} → ℕ → Reading → Reading → Result TextLine TextKind → Result U LineFault → Type 0
TakesText n old new read (Ok u) = IsOkAnd read (λ t. Took n old new t)
TakesText n old new read (Err OutOfMemory) = Unit {0}
TakesText n old new read (Err (Refused kind)) = read ≡ Err kind

-- these lines, and then what is read
abbrev pub with_front : List TextLine → Result (List TextLine) RefusedAt → Result (List TextLine) RefusedAt
with_front front (Ok ts) = Ok (front ++ ts)
with_front front (Err e) = Err e
