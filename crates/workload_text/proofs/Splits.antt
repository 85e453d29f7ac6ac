-- Cutting at the first place that a search found.
use Rattle.std.proofs.Common.{◌≡◌, ℕ, ◌<◌, ◌≤◌, ◌+◌, ◌-◌, Bool, true, false, List, [], ◌∷◌, ◌++◌, length, take, drop, get_or, sym, ◌∙◌, ap, arith}
use Rattle.std.specs.List.{All, slice_split}
use Rattle.std.proofs.lemmas.List.{take-append-drop, take_rest, get_or-take, length-take-le, drop_more}
use Rattle.std.proofs.Math.Seq.{take-length}
use Rattle.std.proofs.lemmas.List.Splits.{slice_split_at, slice_split_none}
use Rattle.std.proofs.lemmas.List.Elements.{All-from_get_or}
use Rattle.std.proofs.lemmas.Bool.{false_from_ne_true}

front_is : (p : ℕ → Bool) (text : List ℕ) (k : ℕ) → k ≤ length text → ((j : ℕ) → j < k → p (get_or text j 0) ≡ true → ⊥) → All (λ x. p x ≡ false) (take k text)
front_is p text k within before =
    All-from_get_or (λ x. p x ≡ false) (take k text) 0 (λ i below.
    let len = length-take-le k text within in
    false_from_ne_true _ (λ h. before i (omega (arith, len)) (rw (get_or-take k text i 0 (omega (arith, len))) at h)))

-- a part that ends at the first place that passes
pub part_ends : (p : ℕ → Bool) (text : List ℕ) (k n : ℕ) → k < length text → p (get_or text k 0) ≡ true → ((j : ℕ) → j < k → p (get_or text j 0) ≡ true → ⊥) → n ≡ length text - (k + 1) → slice_split p text ≡ take k text ∷ slice_split p (take n (drop (k + 1) text))
part_ends p text k n within at before e =
    let front = front_is p text k (omega arith) before in
    let cut : text ≡ take k text ++ get_or text k 0 ∷ drop (k + 1) text = sym (take-append-drop k text) ∙ ap (λ t. take k text ++ t) (drop_more text k 0 within) in
    let whole : take n (drop (k + 1) text) ≡ drop (k + 1) text = ap (λ m. take m (drop (k + 1) text)) e ∙ take_rest text (k + 1) in
    ap (slice_split p) cut ∙ slice_split_at p (take k text) (get_or text k 0) (drop (k + 1) text) front at ∙ ap (λ t. take k text ∷ slice_split p t) (sym whole)

-- a part behind which no place passes
pub part_last : (p : ℕ → Bool) (text : List ℕ) → ((j : ℕ) → j < length text → p (get_or text j 0) ≡ true → ⊥) → slice_split p text ≡ text ∷ []
part_last p text none = slice_split_none p text (rw (take-length text) at (front_is p text (length text) (omega arith) none))
