-- The accesses of a range of bytes, piece by piece.
use Rattle.std.specs.Prelude.{◌≡◌, ℕ, ◌≤◌, List, [], ◌∷◌, ◌++◌, length, take, drop, sum_by}
use Rattle.page_base.specs.declared.keys.Key.{Key}
use Rattle.page_base.specs.declared.keys.Piece.{Piece}
use Rattle.page_model.specs.declared.entry.Entry.{Entry}
use Rattle.page_model.specs.declared.entry.Entry.TheVariants.{Load, Save}

-- one access a piece, in order; the pieces share these bytes out
abbrev pub accesses_by : (access : Key → (place : ℕ) → List ℕ → Entry) → List Piece → List ℕ → List Entry
accesses_by access [] bytes = []
accesses_by access (p ∷ ps) bytes = access p.key p.place (take p.len bytes) ∷ accesses_by access ps (drop p.len bytes)

abbrev pub loads : List Piece → List ℕ → List Entry
loads ps bytes = accesses_by (λ k place its. Load k place its) ps bytes

abbrev pub saves : List Piece → List ℕ → List Entry
saves ps bytes = accesses_by (λ k place its. Save k place its) ps bytes

-- the bytes of some pieces together
abbrev pub bytes_in : List Piece → ℕ
bytes_in ps = sum_by (λ (p : Piece). p.len) ps

-- these are the pieces before one of all, and have `done` bytes together
pub record AreBefore (all : List Piece) (done : ℕ) (ps : List Piece) : Type 0 where
  pub next : Piece
  pub rest : List Piece
  pub all_are : all ≡ ps ++ next ∷ rest
  pub bytes : bytes_in ps ≡ done

-- one piece more
pub record AccessesByPiece : Type 0 where
  -- with its share of the bytes
  pub more : (access : Key → ℕ → List ℕ → Entry) (ps : List Piece) (p : Piece) (bytes : List ℕ)
      → accesses_by access (ps ++ p ∷ []) bytes
      ≡ accesses_by access ps bytes ++ access p.key p.place (take p.len (drop (bytes_in ps) bytes)) ∷ []
  -- with bytes of its own
  pub own : (access : Key → ℕ → List ℕ → Entry) (ps : List Piece) (p : Piece) (bytes its : List ℕ)
      → bytes_in ps ≡ length bytes → length its ≡ p.len
      → accesses_by access (ps ++ p ∷ []) (bytes ++ its) ≡ accesses_by access ps bytes ++ access p.key p.place its ∷ []
  -- bytes past the pieces don't matter
  pub front : (access : Key → ℕ → List ℕ → Entry) (ps : List Piece) (bytes past : List ℕ)
      → bytes_in ps ≤ length bytes → accesses_by access ps (bytes ++ past) ≡ accesses_by access ps bytes
