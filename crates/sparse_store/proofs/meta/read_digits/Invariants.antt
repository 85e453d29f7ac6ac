use Rattle.std.proofs.Common.{◌≡◌, ℕ, ◌<◌, ◌≤◌, take, get_or}
use Rattle.std.specs.Int.{IsInRange}
use Rattle.std.specs.Str.Parse.{digits_value}
use Rattle.sparse_store.specs.declared.meta.TheConstants.{MOST_META_NUMBER}
use Rattle.sparse_store.proofs.meta.read_digits.Given as goal

-- the bytes so far are digits, and this is their value
abbrev pub invariant-loop-count : goal.invariant-loop-count
invariant-loop-count l = record {
  each : (k : ℕ) → k < l.count → IsInRange 48 57 (get_or l.bytes k 0);
  value : l.value ≡ digits_value 10 (take l.count l.bytes);
  most : l.value ≤ MOST_META_NUMBER;
}
