-- What a journal notes.
use Rattle.std.specs.Prelude.{ℕ, ◌∷◌}
use Rattle.histories.specs.Histories.{History}
use Rattle.page_model.specs.declared.entry.Entry.{Entry}

-- whatever history the old journal had noted, the new one has noted it with this owner's entry on top
abbrev pub NotesOnTop : {J : Type 0} → (has_noted : J → History Entry → Type 0) → (owner : ℕ) → Entry → (old new : J) → Type 0
NotesOnTop has_noted owner e old new = (h : History Entry) → has_noted old h → has_noted new ((owner, e) ∷ h)
