-- Ranges of a region's bytes on a pager: what a load or a store of one asks for, what it makes, and how it ends.
use Rattle.std.specs.Prelude.{◌≡◌, ℕ, ◌+◌, ◌*◌, ◌^◌, ◌<◌, ◌≤◌, Bool, true, false, List, [], ◌∷◌, length, slice_get, slice_index}
use Rattle.page_base.specs.declared.keys.Key.{Key}
use Rattle.page_base.specs.declared.keys.Why.{Why}
use Rattle.histories.specs.Histories.{History}
use Rattle.page_model.specs.declared.entry.Entry.{Entry}
use Rattle.page_model.specs.Setups.{pages_of}
use Rattle.page_base.specs.declared.keys.Piece.{Piece}
use Rattle.region_table.specs.Regions.{TableSeen, lengths_of}
use Rattle.serial_pager.specs.Accesses.{serves}
use Rattle.serial_pager.specs.declared.fault.PageFault.{PageFault}
use Rattle.serial_pager.specs.Pagers.{PagerSeen, closes_at, has_key, stripe_at, IsSame, WentAll, WentToIn}
use Rattle.script_run.specs.LineEntries.{Fails, MakesInOrder, may_make}
use Rattle.script_run.specs.declared.access.AccessEnd.{AccessEnd}
use Rattle.script_run.specs.declared.access.AccessEnd.TheVariants.{Unmapped, Fault}
use Rattle.page_model.specs.declared.entry.Entry.TheVariants.{Load, Save}
use Rattle.page_model.specs.Pieces.{AreBefore, accesses_by, bytes_in, loads, saves}
use Rattle.region_table.specs.Pieces.{pieces_of}
use Rattle.workload_text.specs.Line.{load_line, store_line}
use Rattle.flat_lines.specs.Spreads.{piece_key}

-- a load and a store of one piece
abbrev pub load_of : Key → (place : ℕ) → List ℕ → Entry
load_of k place its = Load k place its

abbrev pub save_of : Key → (place : ℕ) → List ℕ → Entry
save_of k place its = Save k place its

module _ {J : Type 0} where
  abbrev pub pages_at : PagerSeen J → (region : ℕ) → ℕ
  pages_at p r = pages_of (slice_get p.shapes r)

  -- the range lies in the region, and the pager has pieces left for it
  pub record IsRange (p : PagerSeen J) (region off len : ℕ) : Type 0 where
    pub inside : off + len ≤ pages_at p region * p.page_size
    pub near : off + len ≤ 2 ^ 40
    pub few : p.spent + len ≤ 2 ^ 44

  -- the table has the range's region, with pages of the pager's size
  pub record IsListed (p : PagerSeen J) (table : TableSeen) (region off len : ℕ) : Type 0 where
    pub page_size : table.page_size ≡ p.page_size
    pub some : 0 < p.page_size
    pub known : region < length table.regions
    pub ends : off + len ≤ slice_index (lengths_of table) region

  -- what no access changes, and no more pieces than bytes
  pub record RangeGoesOn (len : ℕ) (old new : PagerSeen J) : Type 0 where
    pub same : IsSame old new
    pub spent : new.spent ≤ old.spent + len

  -- ---- where the region closes

  -- it closes in the stripe of the page that its byte `at` lies in
  abbrev pub closes_there : PagerSeen J → (region at : ℕ) → Bool
  closes_there p region at = closes_at p (stripe_at p (piece_key p.page_size region at)) region

  -- at none of these first bytes of a range
  abbrev pub IsOpenRange : PagerSeen J → (region off count : ℕ) → Type 0
  IsOpenRange p region off count = (i : ℕ) → i < count → closes_there p region (off + i) ≡ false

  -- ---- one piece

  -- a piece in a page that lies in the region
  pub record IsPart (p : PagerSeen J) (k : Key) (place len : ℕ) : Type 0 where
    pub page : has_key p k ≡ true
    pub some : 0 < len
    pub within : place + len ≤ p.page_size

  -- the page's region doesn't close in its stripe, which made this access of it
  pub record PieceDone (has_noted : J → History Entry → Type 0) (k : Key) (reasons : Why → Bool) (access : Entry) (old new : PagerSeen J) : Type 0 where
    pub same : IsSame old new
    pub spent : new.spent ≡ old.spent + 1
    pub open_ : closes_at old (stripe_at old k) k.region ≡ false
    pub went : WentToIn 0 has_noted (stripe_at old k) (serves k reasons) access old new

  -- it doesn't, and the access failed
  pub record PieceFaults (has_noted : J → History Entry → Type 0) (k : Key) (reasons : Why → Bool) (f : PageFault) (old new : PagerSeen J) : Type 0 where
    pub same : IsSame old new
    pub spent : new.spent ≡ old.spent + 1
    pub open_ : closes_at old (stripe_at old k) k.region ≡ false
    pub page : has_key old f.key ≡ true
    pub stripe : stripe_at old f.key ≡ stripe_at old k
    pub failure : Entry
    pub fails : Fails k f.key f.faults failure
    pub went : WentToIn 0 has_noted (stripe_at old k) (serves k reasons) failure old new

  -- the page's region closes in its stripe, and nothing was made, or the access failed
  abbrev pub PieceEnds : (has_noted : J → History Entry → Type 0) → Key → (reasons : Why → Bool) → (old new : PagerSeen J) → AccessEnd → Type 0
  PieceEnds has_noted k reasons old new Unmapped = (closes_at old (stripe_at old k) k.region ≡ true) × (new ≡ old)
  PieceEnds has_noted k reasons old new (Fault f) = PieceFaults has_noted k reasons f old new

  -- ---- all pieces of a range

  -- the stripes made these accesses in order, all by entries that pass a test, and then this failure
  pub record GoesBy (has_noted : J → History Entry → Type 0) (may : Entry → Bool) (accesses failure : List Entry) (old new : PagerSeen J) : Type 0 where
    pub made : ℕ → List Entry
    pub in_order : MakesInOrder (stripe_at old) may accesses failure made
    pub went : WentAll 0 has_noted made old new

  -- the pieces so far, with these bytes
  pub record RangeSoFar (has_noted : J → History Entry → Type 0) (may : Entry → Bool) (access : Key → (place : ℕ) → List ℕ → Entry) (region off : ℕ) (pieces : List Piece) (bytes : List ℕ) (done : ℕ) (old now : PagerSeen J) : Type 0 where
    pub goes : RangeGoesOn done old now
    pub open_ : IsOpenRange old region off done
    pub bytes_are : bytes_in pieces ≡ done
    pub made : GoesBy has_noted may (accesses_by access pieces bytes) [] old now

  -- the fault that ended an access names a page of the stripe of the piece behind the `done` bytes
  pub record FaultsAt (p : PagerSeen J) (region off done : ℕ) (f : PageFault) : Type 0 where
    pub page : has_key p f.key ≡ true
    pub stripe : stripe_at p f.key ≡ stripe_at p (piece_key p.page_size region (off + done))

  -- the access failed at that piece
  pub record BreaksOff (has_noted : J → History Entry → Type 0) (may : Entry → Bool) (accesses : List Entry) (region off done : ℕ) (f : PageFault) (old new : PagerSeen J) : Type 0 where
    pub open_ : closes_there old region (off + done) ≡ false
    pub at : FaultsAt old region off done f
    pub failure : Entry
    pub fails : Fails (piece_key old.page_size region (off + done)) f.key f.faults failure
    pub goes : GoesBy has_noted may accesses (failure ∷ []) old new

  -- the region closes there, or the access failed
  abbrev pub EndsBy : (has_noted : J → History Entry → Type 0) → (may : Entry → Bool) → (accesses : List Entry) → (region off done : ℕ) → (old new : PagerSeen J) → AccessEnd → Type 0
  EndsBy has_noted may accesses region off done old new Unmapped =
      (closes_there old region (off + done) ≡ true) × GoesBy has_noted may accesses [] old new
  EndsBy has_noted may accesses region off done old new (Fault f) = BreaksOff has_noted may accesses region off done f old new

  -- an access of a range ended behind `done` of its bytes, having made the accesses of the pieces before
  pub record RangeEnds (has_noted : J → History Entry → Type 0) (may : Entry → Bool) (access : Key → (place : ℕ) → List ℕ → Entry) (region off len : ℕ) (bytes : List ℕ) (done : ℕ) (e : AccessEnd) (old new : PagerSeen J) : Type 0 where
    pub open_ : IsOpenRange old region off done
    pub pieces : List Piece
    pub before : AreBefore (pieces_of old.page_size region off len) done pieces
    pub ends : EndsBy has_noted may (accesses_by access pieces bytes) region off done old new e

  -- ---- a load of a range

  -- the stripes made the loads of its pieces, with these bytes
  abbrev pub LoadsRange : (has_noted : J → History Entry → Type 0) → (region off len : ℕ) → List ℕ → (old new : PagerSeen J) → Type 0
  LoadsRange has_noted region off len bytes old new =
      IsOpenRange old region off len
      × GoesBy has_noted (may_make old.page_size (load_line region off len)) (loads (pieces_of old.page_size region off len) bytes) [] old new

  -- a load of it ended so
  abbrev pub LoadEnds : (has_noted : J → History Entry → Type 0) → (region off len : ℕ) → (old new : PagerSeen J) → AccessEnd → Type 0
  LoadEnds has_noted region off len old new e =
      (done : ℕ) × (bytes : List ℕ) × (length bytes ≡ done)
      × RangeEnds has_noted (may_make old.page_size (load_line region off len)) load_of region off len bytes done e old new

  -- ---- a store of these bytes to a range

  -- the stripes made the stores of its pieces
  abbrev pub SavesRange : (has_noted : J → History Entry → Type 0) → (region off : ℕ) → List ℕ → (old new : PagerSeen J) → Type 0
  SavesRange has_noted region off bytes old new =
      IsOpenRange old region off (length bytes)
      × GoesBy has_noted (may_make old.page_size (store_line region off bytes)) (saves (pieces_of old.page_size region off (length bytes)) bytes) [] old new

  -- a store ended so
  abbrev pub StoreEnds : (has_noted : J → History Entry → Type 0) → (region off : ℕ) → List ℕ → (old new : PagerSeen J) → AccessEnd → Type 0
  StoreEnds has_noted region off bytes old new e =
      (done : ℕ) × RangeEnds has_noted (may_make old.page_size (store_line region off bytes)) save_of region off (length bytes) bytes done e old new
