-- What the events of a stripe answer, by the data before them.
use Rattle.std.specs.Prelude.{ℕ, ◌+◌, ◌||◌, if◌then◌else◌, List, length, slice_range, Some, ◌≡◌}
use Rattle.page_base.specs.declared.keys.Key.{Key}
use Rattle.page_model.specs.Core.{Core, Resident, page_at, is_present, is_guarded, is_closing, is_pending, is_reading, is_full}
use Rattle.stripe_core.specs.declared.answers.Look.{Look}
use Rattle.stripe_core.specs.declared.answers.Look.TheVariants as look
use Rattle.stripe_core.specs.declared.answers.Raise.{Raise}
use Rattle.stripe_core.specs.declared.answers.Raise.TheVariants as raise

-- a load, by the first that applies
abbrev pub load_look : Core → Key → Look
load_look c k = if is_closing c k.region then look.Closed else (if is_present c k then look.Hit else look.Missing)

-- a store, by the first that applies
abbrev pub save_look : Core → Key → Look
save_look c k =
    if is_closing c k.region then look.Closed else
    (if is_present c k then (if is_guarded c k then look.Protected else look.Hit) else look.Missing)

-- a fault, by the first that applies
abbrev pub raise_answer : Core → Key → Raise
raise_answer c k = if is_pending c k || is_reading c k then raise.Pending else (if is_full c then raise.QueueFull else raise.Raised)

-- these bytes are what the page has from `place` on
pub record GivesBytes (c : Core) (k : Key) (place : ℕ) (bytes : List ℕ) : Type 0 where
  pub there : Resident
  pub is : page_at c k ≡ Some there
  pub gives : bytes ≡ slice_range there.bytes place (place + length bytes)
