-- The bytes of a store: those of its files in order of number, each cut to the length of a file, one that isn't there as zeros.
use Rattle.std.specs.Prelude.{ℕ, List, [], ◌∷◌, ◌++◌, map, Option, Some}
use Rattle.std.specs.Option.{option_map, option_and_then}
use Rattle.std.specs.List.{range_with_len}
use Rattle.file_store.specs.Parts.{whole, PartSeen}
use Rattle.file_store.specs.Shelves.{File, file_at}
use Rattle.file_store.specs.Folders.{reached_bytes}
use Rattle.sparse_store.specs.Files.{file_path, file_count}
use Rattle.sparse_store.specs.SparseFiles.{file_bytes}
use Rattle.sparse_store.specs.declared.meta.Meta.{Meta}

-- of files of this length, none for one that isn't there
abbrev pub joined : (file : ℕ) → List (Option (List ℕ)) → List ℕ
joined file [] = []
joined file (f ∷ fs) = reached_bytes (whole file) f ++ joined file fs

-- of the store in a folder
abbrev pub joined_in : List File → (dir : List ℕ) → Meta → List ℕ
joined_in files dir m = joined m.file (map (λ k. file_at files (file_path dir k)) (range_with_len 0 (file_count m)))

-- what the parts of a store tell, where all of them do
abbrev pub contents_of : List PartSeen → Option (List ℕ)
contents_of [] = Some []
contents_of (p ∷ ps) = option_and_then (λ bytes. option_map (λ rest. bytes ++ rest) (contents_of ps)) (file_bytes p)
