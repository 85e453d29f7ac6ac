-- What one look at a page finds and does.
use Rattle.std.specs.Prelude.{ℕ, ⊤, ◌≡◌, ◌<◌, true, false, ◌||◌, nat_le, if◌then◌else◌, List, [], ◌∷◌, ◌++◌, length, Option, Some, None}
use Rattle.histories.specs.Histories.{History, by}
use Rattle.page_base.specs.declared.keys.Key.{Key}
use Rattle.page_base.specs.declared.keys.Why.{Why}
use Rattle.page_base.specs.declared.keys.Why.TheVariants as why
use Rattle.stripe_core.specs.declared.answers.Look.{Look}
use Rattle.stripe_core.specs.declared.answers.Look.TheVariants as look
use Rattle.locked_stripe.specs.Calls.{for_store}
use Rattle.page_model.specs.declared.entry.Entry.{Entry}
use Rattle.page_model.specs.declared.entry.Entry.TheVariants as entry
use Rattle.page_model.specs.Closings.{is_closing}
use Rattle.page_model.specs.Faults.{pending, is_pending}
use Rattle.page_model.specs.InFlight.{is_reading}
use Rattle.page_model.specs.Setups.{Setup}
use Rattle.page_model.specs.StoreFaults.{read_fault}
use Rattle.turn_lock.specs.Seen.{PassSeen}
use Rattle.locked_stripe.specs.declared.answers.Glance.{Glance}
use Rattle.locked_stripe.specs.declared.answers.Glance.TheVariants as glance
use Rattle.locked_stripe.specs.InsideHolds.{OneHold}

-- the number is the one that the first look kept, where there was one
abbrev pub IsSameFault : Option ℕ → ℕ → Type 0
IsSameFault None n = ⊤
IsSameFault (Some m) n = n ≡ m

abbrev pub IsOtherFault : Option ℕ → ℕ → Type 0
IsOtherFault None n = ⊥
IsOtherFault (Some m) n = n ≡ m → ⊥

-- why a store that didn't hit raises the page's fault
abbrev pub fault_of : Look → Why
fault_of look.Missing = why.Write
fault_of found = why.Protected

-- the fault that a look raises where it misses: none where the page waits or is being read, or where no further one may wait
abbrev pub raised_by : Setup → History Entry → Key → Why → List Entry
raised_by u h k why =
    if is_pending h k || is_reading h k then [] else (if nat_le u.faults (length (pending h)) then [] else entry.Raised k why ∷ [])

module _ {T : Type 0} where
  pub record Waiting (u : Setup) (old new : PassSeen T Entry) (k : Key) (why : Why) (before : Option ℕ) (n : ℕ) : Type 0 where
    pub found : History Entry
    pub own : List Entry
    pub held : OneHold old new found own
    pub asks : own ≡ raised_by u found k why
    pub faults : n ≡ read_fault found k
    pub same : IsSameFault before n
    pub pends : is_reading found k ≡ false → 0 < length (pending (by old.number own ++ found))

  pub record Failing (old new : PassSeen T Entry) (k : Key) (before : Option ℕ) (n : ℕ) : Type 0 where
    pub found : History Entry
    pub held : OneHold old new found []
    pub faults : n ≡ read_fault found k
    pub other : IsOtherFault before n

  abbrev pub Glances : Setup → PassSeen T Entry → PassSeen T Entry → Key → Entry → Why → Option ℕ → Glance → Type 0
  Glances u old new k access why before glance.Done = (h : History Entry) × OneHold old new h (access ∷ [])
  Glances u old new k access why before glance.Closed = (h : History Entry) × OneHold old new h [] × (is_closing h k.region ≡ true)
  Glances u old new k access why before (glance.Failed n) = Failing old new k before n
  Glances u old new k access why before (glance.Waits n) = Waiting u old new k why before n

  -- a store's fault is for writing, or to be opened
  abbrev pub StoreGlances : Setup → PassSeen T Entry → PassSeen T Entry → Key → Entry → Option ℕ → Glance → Type 0
  StoreGlances u old new k access before (glance.Waits n) = (reason : Why) × (for_store reason ≡ true) × Waiting u old new k reason before n
  StoreGlances u old new k access before found = Glances u old new k access why.Write before found
