-- How a range of bytes is cut at page boundaries.
use Rattle.std.specs.Prelude.{ℕ, ◌+◌, ◌-◌, ◌*◌, ◌/◌, ◌==◌, min, max, if◌then◌else◌, List, [], map}
use Rattle.std.specs.List.{range_with_len}
use Rattle.page_base.specs.declared.keys.Piece.{Piece}

-- the part of the range from `off` to below `stop` that lies in a page, which it has bytes of
abbrev pub piece_in : (page_size region off stop page : ℕ) → Piece
piece_in page_size region off stop page = record {
  key = record { region = region; page = page };
  place = off - page * page_size;
  len = min stop (page * page_size + page_size) - max off (page * page_size);
}

-- one piece for each page that the range touches, in rising order
abbrev pub pieces_of : (page_size region off len : ℕ) → List Piece
pieces_of page_size region off len =
    if len == 0 then [] else map (piece_in page_size region off (off + len)) (range_with_len (off / page_size) ((off + len - 1) / page_size + 1 - off / page_size))
