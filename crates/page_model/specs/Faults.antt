-- Pending faults: what was raised and waits to be served, after the fault kinds of userfaultfd(2).
use Rattle.std.specs.Prelude.{Bool, true, false, not, if◌then◌else◌, List, [], ◌∷◌, ◌++◌, filter}
use Rattle.std.specs.List.{list_any}
use Rattle.histories.specs.Histories.{History}
use Rattle.page_base.specs.declared.keys.Key.{Key}
use Rattle.page_base.specs.declared.keys.Why.{Why}
use Rattle.page_base.specs.declared.keys.Why.TheVariants.{Read, Write, Protected, Ahead}
use Rattle.page_base.specs.declared.keys.Raise.{Raise}
use Rattle.page_base.specs.Pages.{same}
use Rattle.page_model.specs.declared.entry.HintAnswer.TheVariants as answer
use Rattle.page_model.specs.declared.entry.Entry.{Entry}
use Rattle.page_model.specs.declared.entry.Entry.TheVariants.{Raised, StartRead, Opened, Dropped, Hint}

abbrev pub is_write : Why → Bool
is_write Write = true
is_write why = false

abbrev pub is_protected_why : Why → Bool
is_protected_why Protected = true
is_protected_why why = false

-- why page k was raised last. A hint that is answered Raised raises it for reading ahead
abbrev pub last_why : History Entry → Key → Why
last_why [] k = Read
last_why ((o, Raised j why) ∷ h) k = if same j k then why else last_why h k
last_why ((o, Hint j answer.Raised) ∷ h) k = if same j k then Ahead else last_why h k
last_why (e ∷ h) k = last_why h k

-- these faults, without those of page k
abbrev pub served : Key → List Raise → List Raise
served k = filter (λ p. not (same p.key k))

-- the faults after which no StartRead, Opened or Dropped of their page stands, in order: the oldest first
abbrev pub pending : History Entry → List Raise
pending [] = []
pending ((o, Raised k why) ∷ h) = pending h ++ record { key = k; why = why } ∷ []
pending ((o, Hint k answer.Raised) ∷ h) = pending h ++ record { key = k; why = Ahead } ∷ []
pending ((o, StartRead k) ∷ h) = served k (pending h)
pending ((o, Opened k) ∷ h) = served k (pending h)
pending ((o, Dropped k) ∷ h) = served k (pending h)
pending (e ∷ h) = pending h

abbrev pub is_waiting : Key → List Raise → Bool
is_waiting k = list_any (λ p. same p.key k)

abbrev pub is_pending : History Entry → Key → Bool
is_pending h k = is_waiting k (pending h)
