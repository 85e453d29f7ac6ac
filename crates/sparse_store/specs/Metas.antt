-- The text of a sparse store's metadata, and how far another text goes with one.
use Rattle.std.specs.Prelude.{◌≡◌, ◌≢◌, ℕ, ◌<◌, ◌≤◌, List, ◌++◌, length, take, codes}
use Rattle.std.specs.Fmt.{decimal}
use Rattle.sparse_store.specs.declared.meta.Meta.{Meta}
use Rattle.sparse_store.specs.declared.meta.TheConstants.{MOST_META_NUMBER}

-- three lines, each with its line feed
abbrev pub meta_text : Meta → List ℕ
meta_text m = codes "umap-sparse 1\nsize " ++ (decimal m.size ++ (codes "\nfile " ++ (decimal m.file ++ codes "\n")))

-- both numbers have 1 to 13 digits, the first of them not 0
pub record IsMeta (m : Meta) : Type 0 where
  pub some_size : 1 ≤ m.size
  pub most_size : m.size ≤ MOST_META_NUMBER
  pub some_file : 1 ≤ m.file
  pub most_file : m.file ≤ MOST_META_NUMBER

-- a metadata text begins so
abbrev pub BeginsMeta : List ℕ → Type 0
BeginsMeta begun = (m : Meta) × (more : List ℕ) × IsMeta m × (begun ++ more ≡ meta_text m)

-- this is no metadata text, and its first n bytes are all with which one begins
pub record IsBadMeta (bytes : List ℕ) (n : ℕ) : Type 0 where
  pub none : (m : Meta) → IsMeta m → bytes ≢ meta_text m
  pub within : n ≤ length bytes
  pub begins : BeginsMeta (take n bytes)
  pub longest : (k : ℕ) → n < k → k ≤ length bytes → ¬ (BeginsMeta (take k bytes))
