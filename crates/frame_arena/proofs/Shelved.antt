-- Frames in slots by number.
use Rattle.std.proofs.Common.{◌≡◌, ℕ, zero, suc, ◌+◌, ◌<◌, ◌≤◌, List, [], ◌∷◌, ◌++◌, length, Option, Some, None, refl, ap, subst, arith, slice_set, slice_get, slice_index_or, option_to_list, replicate, IsSome, take, is_some, false}
use lib.Dec.{T}
use Rattle.frame_arena.specs.Frames.{ArenaId, ArenaFrame, held}
use Rattle.frame_arena.specs.InsideArenas.{IsShelf}
use Rattle.frame_arena.specs.InsideArenas.{IsFull}

abbrev Slots : Type 0
Slots = List (Option ArenaFrame)

abbrev pub IsAt : ArenaId → ℕ → ArenaFrame → Type 0
IsAt id n f = (f.number ≡ n) × (f.arena ≡ id)

abbrev IsNone : Option ArenaFrame → Type 0
IsNone None = Unit {0}
IsNone (Some f) = ⊥

abbrev IsThere : ArenaId → ℕ → Option ArenaFrame → Type 0
IsThere id n None = Unit {0}
IsThere id n (Some f) = IsAt id n f

abbrev IsMissing : Option (Option ArenaFrame) → Type 0
IsMissing None = Unit {0}
IsMissing (Some o) = ⊥

abbrev IsHeld : Option (Option ArenaFrame) → Type 0
IsHeld None = Unit {0}
IsHeld (Some None) = ⊥
IsHeld (Some (Some f)) = Unit {0}

further : (n k : ℕ) (f : ArenaFrame) (id : ArenaId) → IsAt id (n + 1 + k) f → IsAt id (n + suc k) f
further n k f id a = let same : n + 1 + k ≡ n + suc k = omega arith in subst (λ (m : ℕ). IsAt id m f) same a

-- a frame that stands in a slot has its number
pub shelf_at : (id : ArenaId) (n : ℕ) (slots : Slots) (k : ℕ) (d : Option ArenaFrame) (f : ArenaFrame) → IsShelf id n slots → k < length slots → slice_index_or slots k d ≡ Some f → IsAt id (n + k) f
shelf_at id n [] k d f s h e = absurd (omega arith)
shelf_at id n (None ∷ slots) zero d f s h e = absurd (subst (λ (o : Option ArenaFrame). IsNone o) e tt)
shelf_at id n (Some g ∷ slots) zero d f s h e = let same : n ≡ n + 0 = omega arith in subst (λ (o : Option ArenaFrame). IsThere id (n + 0) o) e (subst (λ (m : ℕ). IsAt id m g) same s.0)
shelf_at id n (None ∷ slots) (suc k) d f s h e = further n k f id (shelf_at id (n + 1) slots k d f s (omega arith) e)
shelf_at id n (Some g ∷ slots) (suc k) d f s h e = further n k f id (shelf_at id (n + 1) slots k d f s.1 (omega arith) e)

-- a frame is put into the slot of its number
pub shelf_set : (id : ArenaId) (n : ℕ) (slots : Slots) (k : ℕ) (f : ArenaFrame) → IsShelf id n slots → IsAt id (n + k) f → IsShelf id n (slice_set slots k (Some f))
shelf_set id n [] k f s a = tt
shelf_set id n (None ∷ slots) zero f s a = let same : n + 0 ≡ n = omega arith in (subst (λ (m : ℕ). IsAt id m f) same a, s)
shelf_set id n (Some g ∷ slots) zero f s a = let same : n + 0 ≡ n = omega arith in (subst (λ (m : ℕ). IsAt id m f) same a, s.1)
shelf_set id n (None ∷ slots) (suc k) f s a = let same : n + suc k ≡ n + 1 + k = omega arith in shelf_set id (n + 1) slots k f s (subst (λ (m : ℕ). IsAt id m f) same a)
shelf_set id n (Some g ∷ slots) (suc k) f s a = let same : n + suc k ≡ n + 1 + k = omega arith in (s.0, shelf_set id (n + 1) slots k f s.1 (subst (λ (m : ℕ). IsAt id m f) same a))

-- and there is one more
pub count_set : (slots : Slots) (k : ℕ) (f : ArenaFrame) → slice_get slots k ≡ Some None → held (slice_set slots k (Some f)) ≡ held slots + 1
count_set [] k f e = absurd (subst (λ (o : Option (Option ArenaFrame)). IsMissing o) e tt)
count_set (None ∷ slots) zero f e = omega arith
count_set (Some g ∷ slots) zero f e = absurd (subst (λ (o : Option (Option ArenaFrame)). IsHeld o) e tt)
count_set (None ∷ slots) (suc k) f e = count_set slots k f e
count_set (Some g ∷ slots) (suc k) f e = let next = count_set slots k f e in omega arith

pub shelf_empty : (id : ArenaId) (n k : ℕ) → IsShelf id n (replicate k None)
shelf_empty id n zero = tt
shelf_empty id n (suc k) = shelf_empty id (n + 1) k

pub count_empty : (k : ℕ) → held (replicate k None) ≡ 0
count_empty zero = refl
count_empty (suc k) = count_empty k

held_within : (slots : Slots) → held slots ≤ length slots
held_within [] = omega arith
held_within (None ∷ slots) = let less = held_within slots in omega arith
held_within (Some f ∷ slots) = let less = held_within slots in omega arith

-- as many frames as slots fill the slots
pub shelf_full : (id : ArenaId) (n : ℕ) (slots : Slots) → IsShelf id n slots → held slots ≡ length slots → IsFull id n slots
shelf_full id n [] s e = tt
shelf_full id n (None ∷ slots) s e = let few = held_within slots in let none : held slots ≡ suc (length slots) = e in absurd (omega arith)
shelf_full id n (Some f ∷ slots) s e = let one : suc (held slots) ≡ suc (length slots) = e in (s.0, shelf_full id (n + 1) slots s.1 (omega arith))

abbrev pub IsLast : ArenaId → ℕ → Option (Option ArenaFrame) → Type 0
IsLast id n None = Unit {0}
IsLast id n (Some None) = ⊥
IsLast id n (Some (Some f)) = IsAt id n f

is_held : (id : ArenaId) (n : ℕ) (o : Option ArenaFrame) → IsLast id n (Some o) → IsSome o
is_held id n None last = absurd last
is_held id n (Some f) last = refl

-- the last slot is taken off
pub full_pop : (id : ArenaId) (n : ℕ) (slots : Slots) (o : Option ArenaFrame) → IsFull id n (slots ++ o ∷ []) → IsFull id n slots × IsLast id (n + length slots) (Some o)
full_pop id n [] None full = absurd full
full_pop id n [] (Some f) full = let same : n ≡ n + 0 = omega arith in (tt, subst (λ (m : ℕ). IsAt id m f) same full.0)
full_pop id n (None ∷ slots) o full = absurd full
full_pop id n (Some g ∷ slots) o full =
    let rest = full_pop id (n + 1) slots o full.1 in
    let same : n + 1 + length slots ≡ n + suc (length slots) = omega arith in
    ((full.0, rest.0), subst (λ (m : ℕ). IsLast id m (Some o)) same rest.1)

from_zero : (n : ℕ) → 0 + n ≡ n
from_zero n = omega arith

-- the last slot of a full shelf has its frame
pub last_held : (id : ArenaId) (slots rest : Slots) (o : Option ArenaFrame) → IsFull id 0 slots → slots ≡ rest ++ option_to_list (Some o) → IsSome o
last_held id slots rest o full e = is_held id (0 + length rest) o (full_pop id 0 rest o (subst (λ (l : Slots). IsFull id 0 l) e full)).1

-- and is taken off
pub popped : (id : ArenaId) (slots rest : Slots) (f : ArenaFrame) → IsFull id 0 slots → slots ≡ rest ++ option_to_list (Some (Some f)) → IsFull id 0 rest × IsAt id (length rest) f
popped id slots rest f full e =
    let p = full_pop id 0 rest (Some f) (subst (λ (l : Slots). IsFull id 0 l) e full) in
    (p.0, subst (λ (n : ℕ). IsAt id n f) (from_zero (length rest)) p.1)

-- a frame is taken out of its slot
pub shelf_unset : (id : ArenaId) (n : ℕ) (slots : Slots) (k : ℕ) → IsShelf id n slots → IsShelf id n (slice_set slots k None)
shelf_unset id n [] k s = tt
shelf_unset id n (None ∷ slots) zero s = s
shelf_unset id n (Some g ∷ slots) zero s = s.1
shelf_unset id n (None ∷ slots) (suc k) s = shelf_unset id (n + 1) slots k s
shelf_unset id n (Some g ∷ slots) (suc k) s = (s.0, shelf_unset id (n + 1) slots k s.1)

pub held_unset : (slots : Slots) (k : ℕ) (d : Option ArenaFrame) (f : ArenaFrame) → k < length slots → slice_index_or slots k d ≡ Some f → held slots ≡ held (slice_set slots k None) + 1
held_unset [] k d f h e = absurd (omega arith)
held_unset (None ∷ slots) zero d f h e = absurd (subst (λ (o : Option ArenaFrame). IsNone o) e tt)
held_unset (Some g ∷ slots) zero d f h e = omega arith
held_unset (None ∷ slots) (suc k) d f h e = held_unset slots k d f (omega arith) e
held_unset (Some g ∷ slots) (suc k) d f h e = let next = held_unset slots k d f (omega arith) e in omega arith

-- no slot up to n has a frame
pub held_take : (slots : Slots) (n : ℕ) (d : Option ArenaFrame) → n < length slots → held (take n slots) ≡ 0 → is_some (slice_index_or slots n d) ≡ false → held (take (n + 1) slots) ≡ 0
held_take [] n d h e o = absurd (omega arith)
held_take (None ∷ slots) zero d h e o = refl
held_take (Some f ∷ slots) zero d h e o = absurd (subst T o tt)
held_take (None ∷ slots) (suc n) d h e o =
    let same : suc (n + 1) ≡ suc n + 1 = omega arith in
    subst (λ (m : ℕ). held (take m (None ∷ slots)) ≡ 0) same (held_take slots n d (omega arith) e o)
held_take (Some f ∷ slots) (suc n) d h e o = let some : suc (held (take n slots)) ≡ 0 = e in absurd (omega arith)

-- a shelf grows at its end
pub full_push : (id : ArenaId) (n : ℕ) (slots : Slots) (f : ArenaFrame) → IsFull id n slots → IsAt id (n + length slots) f → IsFull id n (slots ++ Some f ∷ [])
full_push id n [] f full a = let same : n + 0 ≡ n = omega arith in (subst (λ (m : ℕ). IsAt id m f) same a, tt)
full_push id n (None ∷ slots) f full a = absurd full
full_push id n (Some g ∷ slots) f full a = let same : n + suc (length slots) ≡ n + 1 + length slots = omega arith in (full.0, full_push id (n + 1) slots f full.1 (subst (λ (m : ℕ). IsAt id m f) same a))

pub full_shelf : (id : ArenaId) (n : ℕ) (slots : Slots) → IsFull id n slots → IsShelf id n slots
full_shelf id n [] full = tt
full_shelf id n (None ∷ slots) full = absurd full
full_shelf id n (Some f ∷ slots) full = (full.0, full_shelf id (n + 1) slots full.1)

pub full_held : (id : ArenaId) (n : ℕ) (slots : Slots) → IsFull id n slots → held slots ≡ length slots
full_held id n [] full = refl
full_held id n (None ∷ slots) full = absurd full
full_held id n (Some f ∷ slots) full = ap suc (full_held id (n + 1) slots full.1)
