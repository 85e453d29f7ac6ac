-- The faults that wait, with a bound on how many of them may be stale though their region isn't closing.
use Rattle.std.specs.Prelude.{ℕ, ◌+◌, ◌-◌, ◌≤◌, Bool, false, not, ◌&&◌, nat_lt, if◌then◌else◌, List, [], ◌∷◌, ◌++◌, length, count_by, Option, Some, None}
use Rattle.page_base.specs.declared.keys.Key.{Key}
use Rattle.page_base.specs.declared.keys.Raise.{Raise}
use Rattle.page_base.specs.declared.keys.Why.{Why}
use Rattle.soft_mmu.specs.Entries.{table_entry, is_protected}
use Rattle.fault_queue.specs.Queues.{pending_why, without, opens, opens_why}
use Rattle.stripe_core.specs.Parts.{Table}

pub record WaitingSeen : Type 0 where
  pub raises : List Raise
  pub capacity : ℕ
  pub lost : ℕ  -- no fewer than the faults for a protected page whose page isn't protected

-- with a fault at the end
abbrev pub raised : WaitingSeen → Key → Why → WaitingSeen
raised q key why = record q { raises = q.raises ++ record { key = key; why = why } ∷ [] }

abbrev pub opens_some : Option Why → Bool
opens_some None = false
opens_some (Some why) = opens_why why

-- the page waits to be opened
abbrev pub waits_open : List Raise → Key → Bool
waits_open raises key = opens_some (pending_why raises key)

-- a page leaves: its fault may be lost
abbrev pub with_lost : WaitingSeen → Key → WaitingSeen
with_lost q key = record q { lost = if waits_open q.raises key && nat_lt q.lost (length q.raises) then q.lost + 1 else q.lost }

-- without the page's fault, which was lost where it waits to be opened and its page isn't protected
abbrev pub dropped : WaitingSeen → Key → Bool → WaitingSeen
dropped q key guarded = record q { raises = without key q.raises; lost = if waits_open q.raises key && not guarded then q.lost - 1 else q.lost }

-- the fault is for a protected page, and its page isn't protected
abbrev pub is_lost : Table → Raise → Bool
is_lost t p = opens p && not (is_protected (table_entry t p.key))

-- there are no more lost faults than are counted
abbrev pub LostWithin : Table → WaitingSeen → Type 0
LostWithin t q = count_by (is_lost t) q.raises ≤ q.lost
