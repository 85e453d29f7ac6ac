-- One order of numbers below a bound, in which each has a group and may be marked.
use Rattle.std.specs.Prelude.{ℕ, ◌==◌, ◌&&◌, ◌||◌, ◌≡◌, Bool, false, not, List, [], ◌∷◌, ◌++◌, length, replicate, find, slice_index_or, slice_set, Option}
use Rattle.index_lists.specs.Lists.{has, without}

pub record OrderSeen : Type 0 where
  pub numbers : ℕ  -- the bound
  pub groups : ℕ  -- the groups are the numbers below this
  pub order : List ℕ  -- the members, the first first
  pub group : List ℕ  -- by number, which says nothing of a number that is no member
  pub marks : List Bool  -- by number, which says nothing of a number that is no member

-- no members
abbrev pub no_members : (groups numbers : ℕ) → OrderSeen
no_members groups numbers = record { numbers = numbers; groups = groups; order = []; group = replicate numbers 0; marks = replicate numbers false }

abbrev pub group_of : OrderSeen → ℕ → ℕ
group_of o number = slice_index_or o.group number 0

abbrev pub mark_of : OrderSeen → ℕ → Bool
mark_of o number = slice_index_or o.marks number false

abbrev pub is_member : OrderSeen → ℕ → Bool
is_member o number = has number o.order

-- the number is of this group
abbrev pub in_group : OrderSeen → ℕ → ℕ → Bool
in_group o group number = group_of o number == group

-- the number is of this group, and marked
abbrev pub marked_in : OrderSeen → ℕ → ℕ → Bool
marked_in o group number = (group_of o number == group) && mark_of o number

-- the number is of this group, and marked, and isn't this one
abbrev pub marked_but : OrderSeen → (group but number : ℕ) → Bool
marked_but o group but number = marked_in o group number && not (number == but)

-- the number at the end of the order, with its group and its mark
abbrev pub appended : OrderSeen → (group number : ℕ) → Bool → OrderSeen
appended o group number mark =
    record o { order = o.order ++ number ∷ []; group = slice_set o.group number group; marks = slice_set o.marks number mark }

-- the number out of the order, the others in theirs
abbrev pub left_out : OrderSeen → ℕ → OrderSeen
left_out o number = record o { order = without number o.order }

-- the number with this mark
abbrev pub with_mark : OrderSeen → ℕ → Bool → OrderSeen
with_mark o number mark = record o { marks = slice_set o.marks number mark }

-- of the members that two tests find, that which stands first: the first that passes either
abbrev pub FirstOfBoth : List ℕ → (one other found : Option ℕ) → Type 0
FirstOfBoth order one other found =
    (p q : ℕ → Bool) → one ≡ find p order → other ≡ find q order → found ≡ find (λ number. p number || q number) order

-- a group and a mark for each number
pub record IsWhole (o : OrderSeen) : Type 0 where
  pub groups : length o.group ≡ o.numbers
  pub marks : length o.marks ≡ o.numbers
