-- Front parts of bytes.
use Rattle.std.proofs.Common.{◌≡◌, ℕ, ◌+◌, ◌≤◌, List, ◌++◌, length, take, drop, arith}
use Rattle.std.proofs.lemmas.List.{same_lists, places}

pub take_take_drop : (i n : ℕ) (bytes : List ℕ) → i + n ≤ length bytes → take i bytes ++ take n (drop i bytes) ≡ take (i + n) bytes
take_take_drop i n bytes fits = same_lists _ _ (grind (arith, places)) (λ k d h. grind (arith, places))
