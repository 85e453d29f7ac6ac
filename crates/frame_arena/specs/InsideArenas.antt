-- How the fields of a frame and of an arena are seen, and what holds of them between calls. No public clause cites this.
use Rattle.std.specs.Prelude.{ℕ, ◌≡◌, ◌+◌, ◌-◌, ◌*◌, ◌<◌, ◌≤◌, List, [], ◌∷◌, length, Vec, Option, Some, None}
use denote.RawPtr.{Ptr, block_ptr, block_of, count_of}
use Rattle.std_alloc.specs.declared.vec.lodged.Lodged.{Lodged}
use Rattle.page_base.specs.declared.limits.TheConstants.{MOST_BUFFER_BYTES}
use Rattle.frame_arena.specs.Frames.{ArenaId, ArenaFrame}
use Rattle.frame_arena.specs.InsideOwnership.{Span, IsPlaced}

-- the arena whose block begins so many bytes before a place
abbrev pub id_before : Ptr → ℕ → ℕ → List ℕ → ArenaId
id_before place bytes page_size names = record { block = block_of place; start = count_of place - bytes; page_size = page_size; names = names }

abbrev pub arena_frame : Vec ℕ Lodged → ℕ → List ℕ → ArenaFrame
arena_frame page number names = record { arena = id_before page.ptr (number * page.len) page.len names; number = number; bytes = page.items }

-- where a frame lies: frames stand in the block by number
abbrev pub address_of : ArenaFrame → Ptr
address_of frame = block_ptr frame.arena.block (frame.arena.start + frame.number * frame.arena.page_size)

pub record IsFrame (page : Vec ℕ Lodged) (number torn : ℕ) (names : List ℕ) : Type 0 where
  pub placed : IsPlaced page.ptr
  pub within : number * page.len ≤ count_of page.ptr
  pub some : 0 < page.len
  pub ticket : torn ≡ number
  pub named : number < length names

abbrev pub id_of : Span → ℕ → List ℕ → ArenaId
id_of whole page_size names = record { block = block_of whole.start; start = count_of whole.start; page_size = page_size; names = names }

-- each frame of the arena stands in the slot of its number, counted from n
abbrev pub IsShelf : ArenaId → ℕ → List (Option ArenaFrame) → Type 0
IsShelf id n [] = Unit {0}
IsShelf id n (None ∷ slots) = IsShelf id (n + 1) slots
IsShelf id n (Some f ∷ slots) = ((f.number ≡ n) × (f.arena ≡ id)) × IsShelf id (n + 1) slots

-- and each slot has its frame
abbrev pub IsFull : ArenaId → ℕ → List (Option ArenaFrame) → Type 0
IsFull id n [] = Unit {0}
IsFull id n (None ∷ slots) = ⊥
IsFull id n (Some f ∷ slots) = ((f.number ≡ n) × (f.arena ≡ id)) × IsFull id (n + 1) slots

pub record IsArena (whole : Span) (names : List ℕ) (slots : List (Option ArenaFrame)) (frames page_size : ℕ) : Type 0 where
  pub placed : IsPlaced whole.start
  pub size : whole.size ≡ frames * page_size
  pub some_frames : 1 ≤ frames
  pub some_bytes : 1 ≤ page_size
  pub small : frames * page_size ≤ MOST_BUFFER_BYTES
  pub named : length names ≡ frames
  pub many : length slots ≡ frames
  pub shelf : IsShelf (id_of whole page_size names) 0 slots
