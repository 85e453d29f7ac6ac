-- When a lock is refused.
use Rattle.std.specs.Prelude.{◌≡◌}
use Rattle.turn_lock.specs.declared.faults.NewFault.{NewFault}
use Rattle.turn_lock.specs.declared.faults.NewFault.TheVariants.{TooManySeats, OutOfMemory}

-- the value comes back; `TooManySeats` comes where too many were asked for, and want of memory only where they weren't
abbrev pub IsRefusedFor : {T : Type 0} → T → Type 0 → NewFault T → Type 0
IsRefusedFor value too_many (TooManySeats x) = (x ≡ value) × too_many
IsRefusedFor value too_many (OutOfMemory x) = (x ≡ value) × ¬ too_many
