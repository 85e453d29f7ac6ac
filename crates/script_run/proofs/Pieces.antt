-- Bytes written over a part of a list.
use Rattle.std.proofs.Common.{◌≡◌, ℕ, ◌+◌, ◌≤◌, List, ◌++◌, length, take, drop, refl, ap, ◌∙◌, arith}
use Rattle.std.proofs.lemmas.List.{places, drop-drop}
use borrow.Rule.Slice.PartMut.{put_mid}
use Rattle.page_base.specs.ListSeen.{spliced}

-- what a write to a part of a page leaves
pub put_of_mid : (xs ys zs : List ℕ) (a k : ℕ) → ys ≡ zs → k ≡ length zs → put_mid a k xs ys ≡ spliced xs a zs
put_of_mid xs ys zs a k same len =
    ap (λ (t : List ℕ). take a xs ++ (t ++ drop k (drop a xs))) same
    ∙ ap (λ (t : List ℕ). take a xs ++ (zs ++ t)) (drop-drop k a xs ∙ ap (λ (m : ℕ). drop m xs) (omega arith))

pub length-spliced : (xs new : List ℕ) (at : ℕ) → at + length new ≤ length xs → length (spliced xs at new) ≡ length xs
length-spliced xs new at fits = grind (arith, places)

pub length-put_mid : (xs ys : List ℕ) (a k : ℕ) → k ≡ length ys → a + k ≤ length xs → length (put_mid a k xs ys) ≡ length xs
length-put_mid xs ys a k len fits = ap length (put_of_mid xs ys ys a k refl len) ∙ length-spliced xs ys a (omega arith)
