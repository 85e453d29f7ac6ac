use Rattle.std.proofs.Common.{◌≡◌, ℕ, zero, suc, true, List, [], ◌∷◌, map, slice_get, slice_index_or, Some, ap}
use Rattle.file_store.specs.Parts.{PartSeen}
use Rattle.sparse_store.specs.SparseLanes.{there_in}
use Rattle.sparse_store.proofs.laws.origins_tell_files.Goals as goal

some_same : {A : Type 0} {x y : A} → Some x ≡ Some y → x ≡ y
some_same e = cc

told : (parts : List PartSeen) (file : ℕ) (part : PartSeen) → slice_get parts file ≡ Some part → slice_index_or (there_in parts) file true ≡ part.made
told [] file part e = absurd (cc)
told (p ∷ parts) zero part e = ap (λ (x : PartSeen). x.made) (some_same e)
told (p ∷ parts) (suc file) part e = told parts file part e

pub returns : goal.returns
returns c = λ dir m layout region stripe file parts part at. told parts file part at
