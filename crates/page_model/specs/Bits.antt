-- The bits of a page: write-protected and dirty, after userfaultfd(2)'s UFFDIO_COPY and UFFDIO_WRITEPROTECT.
-- Dirty is no bit here: it compares the place where a page was last opened with the starts of its finished writes.
use Rattle.std.specs.Prelude.{ℕ, Bool, true, false, not, ◌&&◌, ◌||◌, nat_lt, if◌then◌else◌, [], ◌∷◌, length, Option, Some, None}
use Rattle.histories.specs.Histories.{History}
use Rattle.page_base.specs.declared.keys.Key.{Key}
use Rattle.page_base.specs.Pages.{same}
use Rattle.page_model.specs.declared.entry.Entry.{Entry}
use Rattle.page_model.specs.declared.entry.Entry.TheVariants.{Filled, Opened, StartWrite, Written}
use Rattle.page_model.specs.Faults.{is_write, last_why}

-- by the last Filled, Opened or StartWrite of page k: a fill leaves it protected unless it was raised for writing, an opening
-- doesn't, and a write that starts protects it
abbrev pub is_protected : History Entry → Key → Bool
is_protected [] k = true
is_protected ((o, Filled j) ∷ h) k = if same j k then not (is_write (last_why h k)) else is_protected h k
is_protected ((o, Opened j) ∷ h) k = not (same j k) && is_protected h k
is_protected ((o, StartWrite j why) ∷ h) k = same j k || is_protected h k
is_protected (e ∷ h) k = is_protected h k

-- the last place, from the last fill of page k on, at which it was opened: by an Opened, or by that fill for writing
abbrev pub opened_at : History Entry → Key → Option ℕ
opened_at [] k = None
opened_at ((o, Filled j) ∷ h) k = if same j k then (if is_write (last_why h k) then Some (length h) else None) else opened_at h k
opened_at ((o, Opened j) ∷ h) k = if same j k then Some (length h) else opened_at h k
opened_at (e ∷ h) k = opened_at h k

-- a write of page k that started behind this place has finished
abbrev pub written_since : History Entry → Key → ℕ → Bool
written_since [] k place = false
written_since ((o, Written j at bytes) ∷ h) k place = same j k && nat_lt place at || written_since h k place
written_since (e ∷ h) k place = written_since h k place

abbrev pub is_some_and : (ℕ → Bool) → Option ℕ → Bool
is_some_and p None = false
is_some_and p (Some n) = p n

-- page k was opened, and no write that started since has finished
abbrev pub is_dirty : History Entry → Key → Bool
is_dirty h k = is_some_and (λ place. not (written_since h k place)) (opened_at h k)
