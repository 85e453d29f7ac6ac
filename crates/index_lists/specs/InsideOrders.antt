-- What ties the fields of an order with groups. No public clause cites this.
use Rattle.std.specs.Prelude.{⊤, ℕ, ◌≡◌, ◌+◌, ◌==◌, ◌<◌, ◌≤◌, Bool, true, false, List, [], ◌∷◌, ◌++◌, length, map, filter, take, drop, count_by, slice_index_or, slice_get, Some, None}
use Rattle.index_lists.specs.declared.place.Place.{Place}
use Rattle.index_lists.specs.declared.place.Spot.{Spot}
use Rattle.index_lists.specs.declared.place.Spot.TheVariants as spot
use Rattle.index_lists.specs.Lists.{ListsSeen, list_at, before_place, stands, pushed, pushed_front, inserted}
use Rattle.index_lists.specs.Orders.{OrderSeen, group_of, mark_of, in_group, marked_in}

-- where nothing is kept
abbrev pub no_place : Place
no_place = record { stamp = 0; group = 0; marked = false }

abbrev pub place_of : List Place → ℕ → Place
place_of places number = slice_index_or places number no_place

abbrev pub groups_in : List Place → List ℕ
groups_in places = map (λ (p : Place). p.group) places

abbrev pub marks_in : List Place → List Bool
marks_in places = map (λ (p : Place). p.marked) places

abbrev pub order_seen : ListsSeen → List Place → ℕ → OrderSeen
order_seen order places groups = record {
  numbers = length places;
  groups = groups;
  order = list_at order 0;
  group = groups_in places;
  marks = marks_in places;
}

-- how often a number stands in a list
abbrev pub often : ℕ → List ℕ → ℕ
often number = count_by (λ other. other == number)

-- for each group a list, which is the order without what fails the group's test
pub record AreParts (lists : ListsSeen) (groups : ℕ) (test : ℕ → ℕ → Bool) (order : List ℕ) : Type 0 where
  pub many : length lists.lists ≡ groups
  pub part : (group : ℕ) → group < groups → list_at lists group ≡ filter (test group) order

-- the stamps rise along the order
abbrev pub AreRising : List Place → List ℕ → Type 0
AreRising places [] = ⊤
AreRising places (x ∷ xs) =
    ((y : ℕ) → 1 ≤ often y xs → (place_of places x).stamp < (place_of places y).stamp) × AreRising places xs

-- the members' stamps are below the next
abbrev pub AreBelow : List Place → List ℕ → ℕ → Type 0
AreBelow places order next = (number : ℕ) → 1 ≤ often number order → (place_of places number).stamp < next

-- a member is below the bound, its group is one that there is, and its stamp is below the next
pub record IsKept (o : OrderSeen) (places : List Place) (next number : ℕ) : Type 0 where
  pub within : number < o.numbers
  pub group : group_of o number < o.groups
  pub stamp : (place_of places number).stamp < next

pub record IsGrouped (o : OrderSeen) (order groups marked : ListsSeen) (places : List Place) (next : ℕ) : Type 0 where
  pub few : (o.numbers + o.groups < 4294967296) × (o.numbers + 1 < 4294967296)
  pub sizes : (length o.group ≡ o.numbers) × (length o.marks ≡ o.numbers)
  pub numbers : order.numbers ≡ o.numbers
  pub group_numbers : groups.numbers ≡ o.numbers
  pub mark_numbers : marked.numbers ≡ o.numbers
  pub one : order.lists ≡ o.order ∷ []
  pub grouped : AreParts groups o.groups (in_group o) o.order
  pub marks : AreParts marked o.groups (marked_in o) o.order
  pub kept : (number : ℕ) → 1 ≤ often number o.order → IsKept o places next number
  pub once : (number : ℕ) → often number o.order ≤ 1
  pub rising : AreRising places o.order

-- ---- where a number comes to stand among the marked of its group

abbrev pub members : OrderSeen → ℕ → List ℕ
members o group = filter (in_group o group) o.order

abbrev pub marked_members : OrderSeen → ℕ → List ℕ
marked_members o group = filter (marked_in o group) o.order

-- nothing marked stands before it, or nothing behind it, or this number is the last marked before it
abbrev pub IsSpot : (before behind : List ℕ) → Spot → Type 0
IsSpot before behind spot.Front = before ≡ []
IsSpot before behind spot.Back = behind ≡ []
IsSpot before behind (spot.Behind other) = (others : List ℕ) × (before ≡ others ++ other ∷ [])

-- the marked of the group that stand before the number and behind it, wherever in its group that stands
abbrev pub IsSpotOf : OrderSeen → ℕ → Spot → Type 0
IsSpotOf o number spot =
    (place : ℕ) → slice_get (members o (group_of o number)) place ≡ Some number
    → IsSpot (filter (mark_of o) (take place (members o (group_of o number)))) (filter (mark_of o) (drop (place + 1) (members o (group_of o number)))) spot

-- the spot in front of a place of a list
abbrev pub IsSpotBefore : List ℕ → ℕ → Spot → Type 0
IsSpotBefore list place spot.Front = before_place list place ≡ None
IsSpotBefore list place spot.Back = ⊥
IsSpotBefore list place (spot.Behind other) = before_place list place ≡ Some other

-- the number that the spot names stands in a list
abbrev pub StandsWhere : ListsSeen → Spot → Type 0
StandsWhere lists spot.Front = ⊤
StandsWhere lists spot.Back = ⊤
StandsWhere lists (spot.Behind other) = stands lists other ≡ true

abbrev pub put_at : ListsSeen → (list number : ℕ) → Spot → ListsSeen
put_at lists list number spot.Front = pushed_front lists list number
put_at lists list number spot.Back = pushed lists list number
put_at lists list number (spot.Behind other) = inserted lists other number
