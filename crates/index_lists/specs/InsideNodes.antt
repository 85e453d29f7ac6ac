-- The lists as rings of nodes. No public clause cites this.
use Rattle.std.specs.Prelude.{ℕ, zero, suc, ◌≡◌, ◌+◌, ◌-◌, ◌<◌, ◌≤◌, List, [], ◌∷◌, length, map, slice_index_or, slice_set, Option, Some, None, if◌then◌else◌, nat_le}
use Rattle.std.specs.List.{range_with_len}
use Rattle.index_lists.specs.declared.node.Node.{Node}
use Rattle.index_lists.specs.Lists.{times}

-- where nothing stands
abbrev pub blank : Node
blank = record { previous = 0; next = 0 }

abbrev pub next_at : List Node → ℕ → ℕ
next_at nodes at = (slice_index_or nodes at blank).next

abbrev pub previous_at : List Node → ℕ → ℕ
previous_at nodes at = (slice_index_or nodes at blank).previous

abbrev pub with_next : List Node → (at next : ℕ) → List Node
with_next nodes at next = slice_set nodes at (record (slice_index_or nodes at blank) { next = next })

abbrev pub with_previous : List Node → (at previous : ℕ) → List Node
with_previous nodes at previous = slice_set nodes at (record (slice_index_or nodes at blank) { previous = previous })

-- two nodes made neighbours
abbrev pub joined : List Node → (previous next : ℕ) → List Node
joined nodes previous next = with_previous (with_next nodes previous next) next previous

-- a node that is a number, none for the end of a list
abbrev pub number_of : (numbers node : ℕ) → Option ℕ
number_of numbers node = if nat_le numbers node then None else Some node

-- the numbers from a node on, up to the end of the list
abbrev pub walk : List Node → (numbers steps at : ℕ) → List ℕ
walk nodes numbers zero at = []
walk nodes numbers (suc steps) at = if nat_le numbers at then [] else at ∷ walk nodes numbers steps (next_at nodes at)

-- the list whose end is this node
abbrev pub list_behind : List Node → (numbers end : ℕ) → List ℕ
list_behind nodes numbers end = walk nodes numbers (length nodes) (next_at nodes end)

abbrev pub lists_in : List Node → ℕ → List (List ℕ)
lists_in nodes numbers = map (list_behind nodes numbers) (range_with_len numbers (length nodes - numbers))

-- linked both ways
pub record IsEdge (nodes : List Node) (a b : ℕ) : Type 0 where
  pub next : next_at nodes a ≡ b
  pub previous : previous_at nodes b ≡ a

-- linked both ways, and the second is a number
pub record IsStep (nodes : List Node) (numbers a b : ℕ) : Type 0 where
  pub edge : IsEdge nodes a b
  pub within : b < numbers

-- from a over these numbers to b
abbrev pub IsPath : List Node → (numbers a : ℕ) → List ℕ → ℕ → Type 0
IsPath nodes numbers a [] b = IsEdge nodes a b
IsPath nodes numbers a (x ∷ xs) b = IsStep nodes numbers a x × IsPath nodes numbers x xs b

-- each list is a ring through the node of its end, and a number stands in one list at the most, once
pub record IsTied (nodes : List Node) (numbers : ℕ) (lists : List (List ℕ)) : Type 0 where
  pub size : length nodes ≡ numbers + length lists
  pub few : numbers + length lists < 4294967296
  pub rings : (list : ℕ) → list < length lists → IsPath nodes numbers (numbers + list) (slice_index_or lists list []) (numbers + list)
  pub once : (number : ℕ) → times number lists ≤ 1
