-- How many entries of each kind a history has.
use Rattle.std.specs.Prelude.{◌+◌, [], ◌∷◌}
use Rattle.histories.specs.Histories.{History}
use Rattle.page_model.specs.declared.entry.Entry.{Entry}
use Rattle.page_model.specs.declared.entry.Entry.TheVariants.{Filled, ReadFailed, WriteFailed, Evicted, Written}
use Rattle.page_model.specs.declared.seen.Counts.{Counts}

abbrev pub no_counts : Counts
no_counts = record { fills = 0; writes = 0; evictions = 0; faults = 0 }

-- one entry more
abbrev pub counted : Entry → Counts → Counts
counted (Filled k) c = record c { fills = c.fills + 1 }
counted (Written k at bytes) c = record c { writes = c.writes + 1 }
counted (Evicted k why) c = record c { evictions = c.evictions + 1 }
counted (ReadFailed k n) c = record c { faults = c.faults + 1 }
counted (WriteFailed k n) c = record c { faults = c.faults + 1 }
counted e c = c

abbrev pub counts_of : History Entry → Counts
counts_of [] = no_counts
counts_of ((o, e) ∷ h) = counted e (counts_of h)
