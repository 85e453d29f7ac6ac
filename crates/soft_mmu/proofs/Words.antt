-- The tests of a word's bits are those of its entry.
use Rattle.std.proofs.Common.{◌≡◌, ◌≢◌, ℕ, ◌*◌, ◌^◌, ◌%◌, ◌<◌, true, false, not, nat_eq, eqb, arith, bit_and, zero, suc}
use Rattle.std.specs.Int.{bit_at}
use Rattle.std.proofs.lemmas.Bool.Decides.{nat_tests}
use Rattle.std.proofs.lemmas.Nat.{and_mask, pow_pos}
use Rattle.std.proofs.Math.Nat.{zero-mul}
use Rattle.std.proofs.lemmas.Nat.Bits.{and_pow, bit_at-lt}
use Rattle.soft_mmu.specs.declared.entry.PageEntry.TheVariants.{Absent, Present}
use Rattle.soft_mmu.specs.InsideWords.{decoded, is_set}

tested : (mask b : ℕ) → 0 < mask → b < 2 → not (nat_eq (b * mask) 0) ≡ eqb b 1
tested mask zero some lt = rw (zero-mul mask)
tested mask (suc zero) some lt = grind (arith, nat_tests)
tested mask (suc (suc b)) some lt = absurd (omega arith)

-- a bit is set where the word's part in its mask isn't 0
set_by_mask : (word bit : ℕ) → not (nat_eq (bit_and word (2 ^ bit)) 0) ≡ is_set word bit
set_by_mask word bit = rw (and_pow word bit) (tested (2 ^ bit) (bit_at word bit) (pow_pos bit) (bit_at-lt word bit))

pub decoded_absent : (word : ℕ) → bit_and word 4294967296 ≡ 0 → Absent ≡ decoded word
decoded_absent word none =
    let test : is_set word 32 ≡ false = grind (arith, nat_tests, set_by_mask word 32) in
    rw test

pub decoded_present : (word : ℕ) → bit_and word 4294967296 ≢ 0
    → Present (not (nat_eq (bit_and word 8589934592) 0)) (not (nat_eq (bit_and word 17179869184) 0)) (bit_and word 4294967295) ≡ decoded word
decoded_present word some =
    let test : is_set word 32 ≡ true = grind (arith, nat_tests, set_by_mask word 32) in
    let frame : bit_and word 4294967295 ≡ word % 2 ^ 32 = and_mask word 32 in
    rw (test, set_by_mask word 33, set_by_mask word 34, frame)
