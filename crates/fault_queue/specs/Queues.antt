-- The raises that wait in a fault queue.
use Rattle.std.specs.Prelude.{ℕ, ◌≡◌, ◌≤◌, ◌%◌, Bool, true, false, not, count_by, List, [], ◌∷◌, ◌++◌, take, filter, find, Option, Some, All, Contains, slice_get}
use Rattle.std.specs.Option.{option_map}
use Rattle.page_base.specs.declared.keys.Key.{Key}
use Rattle.page_base.specs.declared.keys.Raise.{Raise}
use Rattle.page_base.specs.declared.keys.Why.{Why}
use Rattle.page_base.specs.declared.keys.Why.TheVariants.{Protected}
use Rattle.page_base.specs.declared.limits.TheConstants.{MOST_REGIONS}
use Rattle.page_base.specs.Pages.{same}

-- the raises in order, and the most that there may be
pub record QueueSeen : Type 0 where
  pub raises : List Raise
  pub capacity : ℕ

abbrev pub is_of : Key → Raise → Bool
is_of key raise = same raise.key key

-- why the page was raised, none where it isn't pending
abbrev pub pending_why : List Raise → Key → Option Why
pending_why raises key = option_map (λ (r : Raise). r.why) (find (is_of key) raises)

-- the raises of the other pages, in their order
abbrev pub without : Key → List Raise → List Raise
without key = filter (λ (r : Raise). not (is_of key r))

-- a key and a why as a raise
abbrev pub raise_of : Key × Why → Raise
raise_of r = record { key = r.0; why = r.1 }

-- the queue with a raise at its end
abbrev pub with_raise : QueueSeen → Key → Why → QueueSeen
with_raise q key why = record q { raises = q.raises ++ record { key = key; why = why } ∷ [] }

-- what a test of a key and a why answers of a raise
abbrev pub of_raise : (Key → Why → Bool → Type 0) → Raise → Bool → Type 0
of_raise answers raise answer = answers raise.key raise.why answer

-- the raise is the first that a test passes, by what the test answers: true for it, and false for each before it
pub record IsFirst (answers : Raise → Bool → Type 0) (raises : List Raise) (raise : Raise) : Type 0 where
  pub place : ℕ
  pub is : slice_get raises place ≡ Some raise
  pub passes : answers raise true
  pub before : All (λ (other : Raise). answers other false) (take place raises)

-- of the raises in the list, the test answers what `passes` computes
abbrev pub Computes : (Raise → Bool → Type 0) → (Raise → Bool) → List Raise → Type 0
Computes answers passes raises = (raise : Raise) (answer : Bool) → Contains raises raise → answers raise answer → answer ≡ passes raise

-- whatever the test computes on the raises, this is the first of them that passes it
abbrev pub FindsComputed : (Raise → Bool → Type 0) → List Raise → Option Raise → Type 0
FindsComputed answers raises found = (passes : Raise → Bool) → Computes answers passes raises → found ≡ find passes raises

-- a page is raised at most once
abbrev pub AreOnce : List Raise → Type 0
AreOnce raises = (key : Key) → count_by (is_of key) raises ≤ 1

-- ---- groups of raises: by the region's number, and by whether they are for a protected page

abbrev pub group_region : Raise → ℕ
group_region raise = raise.key.region % MOST_REGIONS

abbrev pub opens_why : Why → Bool
opens_why Protected = true
opens_why why = false

-- the raise is for a protected page
abbrev pub opens : Raise → Bool
opens raise = opens_why raise.why

-- what a test of groups asks of a raise
abbrev pub asks_group : (ℕ → Bool → Type 0) → Raise → Type 0
asks_group asks raise = asks (group_region raise) (opens raise)

-- what a test of groups answers of a raise
abbrev pub of_group : (ℕ → Bool → Bool → Type 0) → Raise → Bool → Type 0
of_group answers raise answer = answers (group_region raise) (opens raise) answer

-- a raise whose group passes
abbrev pub passes_by : (ℕ → Bool → Bool) → Raise → Bool
passes_by passes raise = passes (group_region raise) (opens raise)

-- whatever the test computes on the groups of the raises, this is the first of them whose group passes it
abbrev pub FindsAmong : (ℕ → Bool → Bool → Type 0) → List Raise → Option Raise → Type 0
FindsAmong answers raises found =
    (passes : ℕ → Bool → Bool) → Computes (of_group answers) (passes_by passes) raises → found ≡ find (passes_by passes) raises
