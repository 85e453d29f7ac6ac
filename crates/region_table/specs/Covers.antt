-- What the pieces of a range have to do with it.
use Rattle.std.specs.Prelude.{◌≡◌, ℕ, ◌+◌, ◌*◌, ◌<◌, ◌≤◌, ◌⊎◌, List, [], ◌∷◌, ◌++◌, All, map, sum_by}
use Rattle.std.specs.List.Sorted.{IsStrictlyIncreasing}
use Rattle.region_table.specs.Pieces.{pieces_of}
use Rattle.page_base.specs.declared.keys.Piece.{Piece}

-- the piece is at least one byte of one page of the region, and begins at byte `off` of it
pub record IsPieceAt (page_size region off : ℕ) (p : Piece) : Type 0 where
  pub of_region : p.key.region ≡ region
  pub begins : p.key.page * page_size + p.place ≡ off
  pub some : 1 ≤ p.len
  pub within : p.place + p.len ≤ page_size

-- the first piece begins at `off`, and each of the others where the one before it ends
abbrev pub AreConsecutive : (page_size region off : ℕ) → List Piece → Type 0
AreConsecutive page_size region off [] = Unit {0}
AreConsecutive page_size region off (p ∷ ps) = IsPieceAt page_size region off p × AreConsecutive page_size region (off + p.len) ps

pub record CoversRange (page_size region off len : ℕ) (ps : List Piece) : Type 0 where
  pub joined : AreConsecutive page_size region off ps
  pub lengths : sum_by (λ (p : Piece). p.len) ps ≡ len
  pub rising : IsStrictlyIncreasing (map (λ (p : Piece). p.key.page) ps)
  pub inside : (pages : ℕ) → off + len ≤ pages * page_size → All (λ (p : Piece). p.key.page < pages) ps

-- the pieces of each range cover it
abbrev pub PiecesCover : Type 0
PiecesCover = (page_size region off len : ℕ) → 1 ≤ page_size → CoversRange page_size region off len (pieces_of page_size region off len)

-- the piece that is next in a range of which `done` bytes are done: it begins there, and at byte 0 of its page unless it is
-- the first
pub record IsNext (page_size region off len done : ℕ) (p : Piece) : Type 0 where
  pub at : IsPieceAt page_size region (off + done) p
  pub short : done + p.len ≤ len
  pub border : (done ≡ 0) ⊎ (p.place ≡ 0)

-- what follows on some pieces of a range is the next one; and behind all of them all bytes are done
pub record PiecesFollow : Type 0 where
  pub next : (page_size region off len done : ℕ) (front rest : List Piece) (p : Piece) → 1 ≤ page_size
      → pieces_of page_size region off len ≡ front ++ p ∷ rest → sum_by (λ (q : Piece). q.len) front ≡ done
      → IsNext page_size region off len done p
  pub all : (page_size region off len done : ℕ) → 1 ≤ page_size
      → sum_by (λ (q : Piece). q.len) (pieces_of page_size region off len) ≡ done → done ≡ len
