-- Lists of numbers below a bound.
use Rattle.std.specs.Prelude.{if◌then◌else◌, ℕ, zero, suc, Option, None, slice_get, ◌<◌, ◌≤◌, ◌==◌, Bool, not, List, [], ◌∷◌, ◌++◌, replicate, filter, map, sum_by, count_by, slice_index_or, slice_set, All}
use Rattle.std.specs.List.{list_any}

pub record ListsSeen : Type 0 where
  pub numbers : ℕ  -- the bound
  pub lists : List (List ℕ)  -- each list in its order

-- so many empty lists
abbrev pub all_empty : (lists numbers : ℕ) → ListsSeen
all_empty lists numbers = record { numbers = numbers; lists = replicate lists [] }

abbrev pub list_at : ListsSeen → ℕ → List ℕ
list_at seen list = slice_index_or seen.lists list []

-- what stands before a place of a list, none before the first
abbrev pub before_place : List ℕ → ℕ → Option ℕ
before_place list zero = None
before_place list (suc place) = slice_get list place

-- the number is in the list
abbrev pub has : ℕ → List ℕ → Bool
has number = list_any (λ other. other == number)

-- the number stands in one of the lists
abbrev pub stands : ListsSeen → ℕ → Bool
stands seen number = list_any (has number) seen.lists

-- the list without the number, the others in their order
abbrev pub without : ℕ → List ℕ → List ℕ
without number = filter (λ other. not (other == number))

-- the number at the end of a list, all other lists as before
abbrev pub pushed : ListsSeen → (list number : ℕ) → ListsSeen
pushed seen list number = record seen { lists = slice_set seen.lists list (list_at seen list ++ number ∷ []) }

-- the number at the front of a list, all other lists as before
abbrev pub pushed_front : ListsSeen → (list number : ℕ) → ListsSeen
pushed_front seen list number = record seen { lists = slice_set seen.lists list (number ∷ list_at seen list) }

-- the list with a number put behind another, where it has that
abbrev pub put_behind : (place number : ℕ) → List ℕ → List ℕ
put_behind place number [] = []
put_behind place number (x ∷ xs) = if x == place then (x ∷ number ∷ xs) else (x ∷ put_behind place number xs)

-- the number behind another in the list of that, all other lists as before: they don't have it
abbrev pub inserted : ListsSeen → (place number : ℕ) → ListsSeen
inserted seen place number = record seen { lists = map (put_behind place number) seen.lists }

-- the number out of its list, all other lists as before: they don't have it
abbrev pub removed : ListsSeen → ℕ → ListsSeen
removed seen number = record seen { lists = map (without number) seen.lists }

-- how often a number stands in the lists
abbrev pub times : ℕ → List (List ℕ) → ℕ
times number = sum_by (count_by (λ other. other == number))

-- the numbers are below the bound, and each stands in one list at the most, once
pub record IsSound (seen : ListsSeen) : Type 0 where
  pub within : All (All (λ number. number < seen.numbers)) seen.lists
  pub once : (number : ℕ) → times number seen.lists ≤ 1
