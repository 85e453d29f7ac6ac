-- One turn of the loop that decodes.
use Rattle.std.proofs.Common.{◌≡◌, ℕ, ◌<◌, ◌+◌, ◌*◌, List, [], ◌∷◌, ◌++◌, length, take, drop, get_or, set, sym, ◌∙◌, ap, arith, append_assoc}
use Rattle.std.proofs.lemmas.List.{drop_more, take_more_set}
use Rattle.workload_text.specs.Reading.{hex_pairs, hex_digit_value}

pub hex_pairs-step : (field out : List ℕ) (i high low : ℕ) → i < length out → length field ≡ 2 * length out
    → high ≡ hex_digit_value (get_or field (2 * i) 0) → low ≡ hex_digit_value (get_or field (2 * i + 1) 0)
    → hex_pairs field ≡ take i out ++ hex_pairs (drop (2 * i) field)
    → hex_pairs field ≡ take (i + 1) (set out i (16 * high + low)) ++ hex_pairs (drop (2 * (i + 1)) field)
hex_pairs-step field out i high low within sizes h l so_far =
    let two : drop (2 * i) field ≡ get_or field (2 * i) 0 ∷ get_or field (2 * i + 1) 0 ∷ drop (2 * i + 1 + 1) field =
    drop_more field (2 * i) 0 (omega arith) ∙ ap (λ t. get_or field (2 * i) 0 ∷ t) (drop_more field (2 * i + 1) 0 (omega arith)) in
    let place : 2 * i + 1 + 1 ≡ 2 * (i + 1) = omega arith in
    let value : 16 * hex_digit_value (get_or field (2 * i) 0) + hex_digit_value (get_or field (2 * i + 1) 0) ≡ 16 * high + low = sym (ap (λ a. 16 * a + low) h ∙ ap (λ b. 16 * hex_digit_value (get_or field (2 * i) 0) + b) l) in
    so_far
    ∙ ap (λ t. take i out ++ hex_pairs t) two
    ∙ ap (λ v. take i out ++ (v ∷ hex_pairs (drop (2 * i + 1 + 1) field))) value
    ∙ ap (λ p. take i out ++ ((16 * high + low) ∷ hex_pairs (drop p field))) place
    ∙ sym (append_assoc (take i out) ((16 * high + low) ∷ []) (hex_pairs (drop (2 * (i + 1)) field)))
    ∙ sym (ap (λ t. t ++ hex_pairs (drop (2 * (i + 1)) field)) (take_more_set out i (16 * high + low) within))
