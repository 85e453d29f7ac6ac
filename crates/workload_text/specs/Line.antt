-- A workload is the list of its lines: what the grammar, the serial text, the replies and the
-- printing all speak of.
use Rattle.std.specs.Prelude.{ℕ, List, Bool}
use Rattle.page_base.specs.Backings.{Backing}

-- one line: a region, the beginning of a script, or a command of the last script before it;
-- a command names its region by number, counted from 0 in order of the `map` lines
pub data Line : Type 0 where
  map_line : (name : List ℕ) (backing : Backing) (size : ℕ) (writable : Bool) → Line
  script_line : (name : List ℕ) → Line
  load_line : (region off len : ℕ) → Line
  store_line : (region off : ℕ) (bytes : List ℕ) → Line
  prefetch_line : (region off len : ℕ) → Line
  flush_line : Line
  unmap_line : (region : ℕ) → Line

-- one line of a text, without its line feed: it says something, or it says nothing and is only counted
pub data TextLine : Type 0 where
  says : (line : Line) → TextLine
  silent : (text : List ℕ) → TextLine
