-- What contracts see of an arena and of its frames.
use Rattle.std.specs.Prelude.{ℕ, suc, List, [], ◌∷◌, ◌++◌, length, take, drop, Option, Some, None, slice_set}

-- which arena: where its block begins, the bytes of a page, and the names of its frames
pub record ArenaId : Type 0 where
  pub block : ℕ
  pub start : ℕ
  pub page_size : ℕ
  pub names : List ℕ

-- a frame: of which arena, its number there, and what its page holds
pub record ArenaFrame : Type 0 where
  pub arena : ArenaId
  pub number : ℕ
  pub bytes : List ℕ

-- an arena: which, its number of frames, and by number the frames that are home
pub record ArenaSeen : Type 0 where
  pub arena : ArenaId
  pub frames : ℕ
  pub slots : List (Option ArenaFrame)

-- how many slots have a frame
abbrev pub held : List (Option ArenaFrame) → ℕ
held [] = 0
held (None ∷ slots) = held slots
held (Some frame ∷ slots) = suc (held slots)

-- how many frames are home
abbrev pub home : ArenaSeen → ℕ
home arena = held arena.slots

-- the arena with this in the slot of the number
abbrev pub with_slot : ArenaSeen → ℕ → Option ArenaFrame → ArenaSeen
with_slot arena number slot = record arena { slots = slice_set arena.slots number slot }

-- new bytes over the first of the old ones, at their length
abbrev pub refilled : List ℕ → List ℕ → List ℕ
refilled old bytes = take (length old) (bytes ++ drop (length bytes) old)

-- the frame with its page written over
abbrev pub with_bytes : ArenaFrame → List ℕ → ArenaFrame
with_bytes frame bytes = record frame { bytes = refilled frame.bytes bytes }
