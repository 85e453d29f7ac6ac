-- Bytes read and written piece by piece.
use Rattle.std.proofs.Common.{◌≡◌, ℕ, ◌+◌, ◌-◌, ◌≤◌, List, ◌++◌, length, take, drop, Option, Some, None, refl, ap, ◌∙◌, arith, length-take, length-drop}
use Rattle.std.proofs.lemmas.List.{take_at, take-append-drop, drop-drop, append_assoc, same_lists, places}
use Rattle.std.specs.Io.KnownBytes.{Appends}

-- what a read from the middle of known bytes leaves of them
pub read_front : (xs buf part : List ℕ) (at n : ℕ) → n ≤ length xs - at → part ≡ take n (drop at xs) → drop at xs ≡ take n (part ++ drop n buf) ++ drop (at + n) xs
read_front xs buf part at n fits e =
    let len : length part ≡ n = rw (e, length-take, length-drop) (omega arith) in
    rw (take_at part (drop n buf) n len, e, ← drop-drop n at xs, take-append-drop n (drop at xs)) refl

-- one piece behind another
pub appends_more : (a b c : Option (List ℕ)) (xs ys : List ℕ) → Appends a b xs → Appends b c ys → Appends a c (xs ++ ys)
appends_more None b c xs ys h k = h
appends_more (Some os) None c xs ys h k = absurd h
appends_more (Some os) (Some bs) None xs ys h k = k
appends_more (Some os) (Some bs) (Some cs) xs ys h k = k ∙ ap (λ (l : List ℕ). l ++ ys) h ∙ append_assoc os xs ys

pub take_take_drop : (i n : ℕ) (bytes : List ℕ) → i + n ≤ length bytes → take i bytes ++ take n (drop i bytes) ≡ take (i + n) bytes
take_take_drop i n bytes fits = same_lists _ _ (grind (arith, places)) (λ k d h. grind (arith, places))
