-- What a run of pieces has left.
use Rattle.std.specs.Prelude.{List}
use Rattle.region_table.specs.Pieces.{pieces_of}
use Rattle.page_base.specs.declared.keys.Piece.{Piece}
use Rattle.region_table.specs.declared.pieces.Pieces.{Pieces}

abbrev pub rest_of : Pieces → List Piece
rest_of p = pieces_of p.page_size p.region p.off p.left
