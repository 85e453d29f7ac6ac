-- What the applied laws come to, as statements.
use Rattle.std.specs.Prelude.{◌≡◌, ℕ, ◌+◌, ◌*◌, ◌≤◌, ◌∷◌, ◌++◌, [], true, false, List, length, slice_get, slice_set, Some}
use Rattle.histories.specs.Histories.{History}
use Rattle.page_base.specs.KeyOrder.{is_below}
use Rattle.page_base.specs.Pages.{same}
use Rattle.page_base.specs.declared.keys.Key.{Key}
use Rattle.page_base.specs.declared.keys.Piece.{Piece}
use Rattle.store_trait.specs.Memory.{page_bytes}
use Rattle.page_model.specs.declared.entry.Entry.{Entry}
use Rattle.page_model.specs.declared.entry.Entry.TheVariants.{Load}
use Rattle.page_model.specs.declared.seen.Pick.{Pick}
use Rattle.page_model.specs.Core as core
use Rattle.page_model.specs.Core.{Core}
use Rattle.page_model.specs.Pieces.{loads}
use Rattle.page_model.specs.Stands.{StandsFor}
use Rattle.region_table.specs.Pieces.{pieces_of}
use Rattle.workload_text.specs.Grammar.{IsText, nothing, shown}
use Rattle.workload_text.specs.Kinds.{Applies}
use Rattle.workload_text.specs.Line.{TextLine}
use Rattle.workload_text.specs.declared.refusal.TextKind.{TextKind}

-- a test of two keys that answers true answers true the other way round
abbrev pub TestsBothWays : Type 0
TestsBothWays = (j k : Key) → same j k ≡ true → same k j ≡ true

-- keys in rising order don't begin again
abbrev pub RisesOnce : Type 0
RisesOnce = (i j k : Key) → is_below i j ≡ true → is_below j k ≡ true → is_below k i ≡ false

-- of two items written over one another the second is read, and a list stays as long
pub record WritesOver : Type 0 where
  pub second : (xs : List ℕ) (i a b old : ℕ) → slice_get xs i ≡ Some old
      → slice_get (slice_set (slice_set xs i a) i b) i ≡ Some b
  pub as_long : (xs : List ℕ) (i j a b : ℕ) → length (slice_set (slice_set xs i a) j b) ≡ length xs

-- of two pages put behind n others the first is read at its place, and begins before the second
pub record PutsBehind : Type 0 where
  pub first : (size n : ℕ) (before one two : List ℕ) → length before ≡ n * size → length one ≡ size
      → page_bytes size ((before ++ one) ++ two) n ≡ one
  pub apart : (size n : ℕ) → n * size + size ≤ (n + 1) * size

-- the first piece of a range lies where the range begins
abbrev pub BeginsWithFirst : Type 0
BeginsWithFirst = (page_size region off len : ℕ) (p : Piece) (rest : List Piece) → 1 ≤ page_size
    → pieces_of page_size region off len ≡ p ∷ rest → p.key.page * page_size + p.place ≡ off

-- the bytes of two pieces, one behind the other, are those of two loads
abbrev pub LoadsTwo : Type 0
LoadsTwo = (p q : Piece) (xs ys : List ℕ) → length xs ≡ p.len → length ys ≡ q.len
    → loads (p ∷ q ∷ []) (xs ++ ys) ≡ Load p.key p.place xs ∷ Load q.key q.place ys ∷ []

-- the lane of a dirty page that may leave is home
abbrev pub PickHasItsLane : Type 0
PickHasItsLane = (h : History Entry) (c : Core) (p : Pick) → StandsFor h c → core.pick c ≡ Some p → p.dirty ≡ true
    → core.is_home c p.key.region ≡ true

-- the oldest page of a region is resident
abbrev pub OldestIsResident : Type 0
OldestIsResident = (h : History Entry) (c : Core) (r : ℕ) (p : Pick) → StandsFor h c → core.oldest_of c r ≡ Some p
    → core.is_present c p.key ≡ true

-- no kind of refusal applies to the first line of an accepted text
abbrev pub FirstLineIsFree : Type 0
FirstLineIsFree = (bytes : List ℕ) (t : TextLine) (ts : List TextLine) (k : TextKind) → IsText bytes (t ∷ ts)
    → ¬ Applies k nothing (shown nothing t) true
