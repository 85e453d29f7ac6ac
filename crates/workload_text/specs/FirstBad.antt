-- Where a text that is no workload goes wrong, by the grammar alone: the first line with which no accepted text begins,
-- and why.
use Rattle.std.specs.Prelude.{◌≡◌, ◌≢◌, ℕ, ◌+◌, ◌<◌, ◌≤◌, Bool, true, false, List, [], ◌∷◌, ◌++◌, length, All, zero, suc, Some}
use Prim.Native.Char.{code}
use Rattle.workload_text.specs.declared.limits.TheConstants.{MOST_TEXT_BYTES}
use Rattle.workload_text.specs.Line.{TextLine}
use Rattle.workload_text.specs.Grammar.{Said, nothing, after_text, shown, IsText}
use Rattle.workload_text.specs.Refusals.{RefusedAt, refusal}
use Rattle.workload_text.specs.Kinds.{Applies, IsFirstKind}
use Rattle.workload_text.specs.declared.refusal.TextKind.{TextKind}
use Rattle.workload_text.specs.declared.refusal.TextKind.TheVariants as kind

-- what lines have said, behind lines that had said s
abbrev pub said_behind : Said → List TextLine → Said
said_behind s [] = s
said_behind s (t ∷ ts) = said_behind (after_text s t) ts

-- no accepted text begins so
abbrev pub BeginsNoText : List ℕ → Type 0
BeginsNoText begun = (bytes more : List ℕ) (texts : List TextLine) → IsText bytes texts → bytes ≡ begun ++ more → ⊥

-- behind a line stands its line feed, and no accepted text begins with what stands in front of it and it; or the line
-- ends the text without one
abbrev pub IsBad : (ended : Bool) → (front line behind : List ℕ) → Type 0
IsBad true front line behind = ((more : List ℕ) × (behind ≡ code "\n" ∷ more)) × BeginsNoText (front ++ (line ++ code "\n" ∷ []))
IsBad false front line behind = (line ≢ []) × (behind ≡ [])

-- Line n, counted from 1, is the first bad one, and this is the first kind that applies to it: what stands in front of
-- it is itself an accepted text
pub record IsFirstBad (bytes : List ℕ) (n : ℕ) (k : TextKind) : Type 0 where
  pub short : length bytes ≤ MOST_TEXT_BYTES
  pub before : List TextLine
  pub front : List ℕ
  pub line : List ℕ
  pub behind : List ℕ
  pub ended : Bool
  pub bytes_are : bytes ≡ front ++ (line ++ behind)
  pub accepted : IsText front before
  pub number : n ≡ length before + 1
  pub one_line : All (λ b. b ≢ code "\n") line
  pub bad : IsBad ended front line behind
  pub why : IsFirstKind k (said_behind nothing before) line ended

-- a text is refused as a whole for its length alone
pub record IsTooLong (bytes : List ℕ) (k : TextKind) : Type 0 where
  pub long : MOST_TEXT_BYTES < length bytes
  pub kind_is : k ≡ kind.Long

-- a refusal of line n names the first bad line with its first kind, and one of line 0 a text that is too long
abbrev pub RefusedRightly : List ℕ → (n : ℕ) → TextKind → Type 0
RefusedRightly bytes zero k = IsTooLong bytes k
RefusedRightly bytes (suc n) k = IsFirstBad bytes (suc n) k

-- every refusal does
abbrev pub RefusalsAreRight : Type 0
RefusalsAreRight = (bytes : List ℕ) (r : RefusedAt) → refusal bytes ≡ Some r → RefusedRightly bytes r.line r.kind

-- no kind applies to any of these lines, behind lines that have said s
abbrev pub AreFree : Said → List TextLine → Type 0
AreFree s [] = Unit {0}
AreFree s (t ∷ ts) = ((k : TextKind) → ¬ Applies k s (shown s t) true) × AreFree (after_text s t) ts

-- to no line of an accepted text does one
abbrev pub AcceptedIsFree : Type 0
AcceptedIsFree = (bytes : List ℕ) (texts : List TextLine) → IsText bytes texts → AreFree nothing texts
