-- What contracts see of a list with reserved room.
use Rattle.std.specs.Prelude.{ℕ, List, ◌+◌, ◌++◌, length, take, drop, slice_set}

-- the items in order, and how many more go in without taking memory
pub record ListSeen (T : Type 0) : Type 0 where
  pub items : List T
  pub spare : ℕ

-- `xs` with `new` in the place of as many items from `at` on
abbrev pub spliced : {T : Type 0} → List T → ℕ → List T → List T
spliced xs at new = take at xs ++ (new ++ drop (at + length new) xs)

-- the list with one item written over, all else as before
abbrev pub with_item : {T : Type 0} → ListSeen T → ℕ → T → ListSeen T
with_item list i new = record list { items = slice_set list.items i new }
