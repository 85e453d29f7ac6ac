-- The law of the trait on counts of faults: they are numbers of 64 bits.
use Rattle.std.specs.Prelude.{ℕ, ◌-◌, ◌^◌, ◌<◌, min}
use Rattle.std.proofs.Common.{arith}

pub none_is_small : 0 < 2 ^ 64
none_is_small = omega arith

pub capped_is_small : (n : ℕ) → min n (2 ^ 64 - 1) < 2 ^ 64
capped_is_small n = omega arith
