-- The law that a lane's origin tells of each file of its store whether it was there, as a statement.
use Rattle.std.specs.Prelude.{ℕ, ◌≡◌, List, slice_get, Some}
use Rattle.page_base.specs.Lanes.{was_there}
use Rattle.page_base.specs.declared.layout.Layout.{Layout}
use Rattle.file_store.specs.Parts.{PartSeen}
use Rattle.sparse_store.specs.declared.meta.Meta.{Meta}
use Rattle.sparse_store.specs.SparseLanes.{there_in, sparse_origin}

abbrev pub OriginsTellFiles : Type 0
OriginsTellFiles =
    (dir : List ℕ) (m : Meta) (layout : Layout) (region stripe file : ℕ) (parts : List PartSeen) (part : PartSeen)
    → slice_get parts file ≡ Some part → was_there (sparse_origin dir m layout region stripe (there_in parts)) file ≡ part.made
