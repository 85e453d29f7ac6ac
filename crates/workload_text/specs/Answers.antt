-- What `parse` answers.
use Rattle.std.specs.Prelude.{◌≡◌, ℕ, ◌+◌, List, [], ◌∷◌, ◌++◌, Result, Ok, Err}
use Rattle.workload_text.specs.Line.{TextLine, says, map_line}
use Rattle.workload_text.specs.Grammar.{IsText}
use Rattle.workload_text.specs.declared.refusal.TextKind.{TextKind}
use Rattle.workload_text.specs.declared.refusal.TextFault.{TextFault}
use Rattle.workload_text.specs.declared.refusal.TextFault.TheVariants.{Refused, OutOfMemory}

-- the number of a `map` line, where this is one and stands on line n
abbrev pub numbers_of : ℕ → TextLine → List ℕ
numbers_of n (says (map_line name backing size writable)) = n ∷ []
numbers_of n t = []

-- the numbers of the `map` lines, where the first of these lines is line n of its text
abbrev pub map_numbers : ℕ → List TextLine → List ℕ
map_numbers n [] = []
map_numbers n (t ∷ ts) = numbers_of n t ++ map_numbers (n + 1) ts

-- these are the numbers of a text's `map` lines
pub record AreMapNumbers (bytes numbers : List ℕ) : Type 0 where
  pub texts : List TextLine
  pub text : IsText bytes texts
  pub numbers_are : numbers ≡ map_numbers 1 texts

-- what holds of a refusal, where this is one; want of memory is none
abbrev pub IfRefused : {W : Type 0} → Result W TextFault → (ℕ → TextKind → Type 0) → Type 0
IfRefused (Ok w) P = Unit {0}
IfRefused (Err OutOfMemory) P = Unit {0}
IfRefused (Err (Refused n kind)) P = P n kind
