-- Where a region's pages lie.
use Rattle.std.specs.Prelude.{ℕ, List}

-- in memory, in one file, or in files of `file` bytes each in the folder `path`
pub data Backing : Type 0 where
  in_memory : Backing
  in_file : (path : List ℕ) → Backing
  in_files : (path : List ℕ) (file : ℕ) → Backing
