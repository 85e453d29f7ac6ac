use Rattle.std.proofs.Common.{◌≡◌, ℕ, ◌<◌, take, get_or}
use Rattle.std.specs.Int.{IsInRange}
use Rattle.std.specs.Str.Parse.{digits_value}
use Rattle.workload_text.proofs.field.digits.Given as goal

-- the bytes so far are digits, and this is their value
abbrev pub invariant-loop-c : goal.invariant-loop-c
invariant-loop-c l = record {
  each : (k : ℕ) → k < l.c-index → IsInRange 48 57 (get_or l.field k 0);
  value : l.value ≡ digits_value 10 (take l.c-index l.field);
}
