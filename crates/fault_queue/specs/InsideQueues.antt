-- How the raises lie in slots, and what ties the fields of a queue.
use Rattle.std.specs.Prelude.{ℕ, ◌≡◌, ◌+◌, ◌*◌, ◌%◌, ◌<◌, ◌≤◌, ◌==◌, Bool, List, [], ◌∷◌, length, map, filter, slice_index_or, Option, Some, None, nat_lt, if◌then◌else◌}
use Rattle.std.specs.List.{range_with_len}
use Rattle.index_lists.specs.Lists.{ListsSeen, list_at}
use Rattle.page_base.specs.declared.keys.Key.{Key}
use Rattle.page_base.specs.declared.keys.Raise.{Raise}
use Rattle.page_base.specs.declared.keys.Why.TheVariants.{Read}
use Rattle.page_base.specs.declared.limits.TheConstants.{MOST_REGIONS}
use Rattle.fault_queue.specs.Queues.{is_of, AreOnce, group_region, opens}

-- what a slot has that was never used
abbrev pub blank : Raise
blank = record { key = record { region = 0; page = 0 }; why = Read }

abbrev pub raise_in : List Raise → ℕ → Raise
raise_in slots slot = slice_index_or slots slot blank

-- the raises of some slots, in their order
abbrev pub raises_in : List Raise → List ℕ → List Raise
raises_in slots order = map (raise_in slots) order

-- the slot has a raise of this page
abbrev pub holds : List Raise → Key → ℕ → Bool
holds slots key slot = is_of key (raise_in slots slot)

abbrev pub bucket_of : (buckets : ℕ) → Key → ℕ
bucket_of buckets key = (key.region * 65537 + key.page) % buckets

abbrev pub is_in_bucket : List Raise → (bucket slot : ℕ) → Bool
is_in_bucket slots bucket slot = bucket_of (length slots) (raise_in slots slot).key == bucket

-- for each bucket the slots of its raises, in their order
abbrev pub chains_of : List Raise → List ℕ → List (List ℕ)
chains_of slots order = map (λ bucket. filter (is_in_bucket slots bucket) order) (range_with_len 0 (length slots))

-- each slot is either in the order or free
pub record IsDealt (lists : ListsSeen) (slots : ℕ) : Type 0 where
  pub two : lists ≡ record { numbers = slots; lists = list_at lists 0 ∷ list_at lists 1 ∷ [] }
  pub all : length (list_at lists 0) + length (list_at lists 1) ≡ slots

pub record IsSound (slots : List Raise) (order chains : ListsSeen) (count : ℕ) : Type 0 where
  pub some : 1 ≤ length slots
  pub few : length slots < 2147483648
  pub dealt : IsDealt order (length slots)
  pub counted : count ≡ length (list_at order 0)
  pub once : AreOnce (raises_in slots (list_at order 0))
  pub chained : chains ≡ record { numbers = length slots; lists = chains_of slots (list_at order 0) }

-- ---- groups

abbrev pub groups : ℕ
groups = 128

-- the groups of raises for reading stand first
abbrev pub fault_group : Raise → ℕ
fault_group raise = if opens raise then MOST_REGIONS + group_region raise else group_region raise

abbrev pub is_in_group : List Raise → (group slot : ℕ) → Bool
is_in_group slots group slot = fault_group (raise_in slots slot) == group

-- for each group the slots of its raises, in their order
abbrev pub groups_of : List Raise → List ℕ → List (List ℕ)
groups_of slots order = map (λ group. filter (is_in_group slots group) order) (range_with_len 0 groups)

abbrev pub stamp_in : List ℕ → ℕ → ℕ
stamp_in stamps slot = slice_index_or stamps slot 0

-- the stamps of some slots rise from a number on, and stay below another
abbrev pub AreStamped : List ℕ → (from : ℕ) → List ℕ → (end : ℕ) → Type 0
AreStamped stamps from [] end = from ≤ end
AreStamped stamps from (slot ∷ order) end = (from ≤ stamp_in stamps slot) × AreStamped stamps (stamp_in stamps slot + 1) order end

-- the slot with the lower stamp
abbrev pub earlier : List ℕ → Option ℕ → ℕ → ℕ
earlier stamps None slot = slot
earlier stamps (Some best) slot = if nat_lt (stamp_in stamps best) (stamp_in stamps slot) then best else slot

-- each slot of the order stands in the list of its group, and stamps rise along the order until there are no more
pub record AreFaultsGrouped (slots : List Raise) (order : List ℕ) (lists : ListsSeen) (stamps : List ℕ) (told : ℕ) : Type 0 where
  pub lists_are : lists ≡ record { numbers = length slots; lists = groups_of slots order }
  pub stamped : length stamps ≡ length slots
  pub rising : told < 18446744073709551615 → AreStamped stamps 0 order told
