-- The word that an entry is kept in: the frame in bits 0 to 31, then one bit each for present, protected and dirty; 0 for an
-- absent page.
use Rattle.std.specs.Prelude.{ℕ, ◌≡◌, ◌+◌, ◌%◌, ◌^◌, ◌==◌, Bool, if◌then◌else◌}
use Rattle.std.specs.Int.{bit_at}
use Rattle.soft_mmu.specs.declared.entry.PageEntry.{PageEntry}
use Rattle.soft_mmu.specs.declared.entry.PageEntry.TheVariants.{Absent, Present}

abbrev pub is_set : ℕ → ℕ → Bool
is_set word bit = bit_at word bit == 1

abbrev pub decoded : ℕ → PageEntry
decoded word = if is_set word 32 then Present (is_set word 33) (is_set word 34) (word % 2 ^ 32) else Absent

-- a bit as a number, where it is set
abbrev pub weight : Bool → ℕ → ℕ
weight set bit = if set then 2 ^ bit else 0

abbrev pub encoded : PageEntry → ℕ
encoded Absent = 0
encoded (Present protected dirty frame) = 2 ^ 32 + weight protected 33 + weight dirty 34 + frame

-- the word has no bit beside those of its entry
abbrev pub IsEncoded : ℕ → Type 0
IsEncoded word = encoded (decoded word) ≡ word
