use Rattle.std.proofs.Common.{[], ◌∷◌}
use Rattle.turn_lock.proofs.held.Holding+T+T+Entry.give.Given as goal

-- the entries that the step adds: the note's one
abbrev pub ghosts-finish : goal.ghosts-finish
ghosts-finish g a = record { entries = g.N.NoteFor.entry a.note.now ∷ [] }
