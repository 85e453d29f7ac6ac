-- Hex digits in pairs: each field of them is what its bytes print as, and back.
use Rattle.std.proofs.Common.{◌≡◌, ℕ, ◌<◌, ◌≤◌, ◌+◌, ◌*◌, ◌/◌, ◌%◌, ◌==◌, Bool, true, ◌&&◌, ◌||◌, inl, inr, not, nat_le, List, [], ◌∷◌, length, slice_index, Some, refl, sym, ap, ◌∙◌, arith}
use Rattle.std.specs.List.{All, list_all}
use Rattle.std.proofs.lemmas.Bool.{and_parts, and_from, or_cases, not-true, both_ways, agree_below_at, eqb-true, leb-true, le-leb, eq-eqb}
use Rattle.std.proofs.lemmas.List.Elements.{All-cons, All-head, All-tail, All-nil}
use Rattle.std.proofs.lemmas.Option.{cond_some}
use Rattle.hex.specs.Hex.{encode_with, encode_lower, lower_digits}
use Rattle.workload_text.specs.Reading.{is_hex, is_hex_digit, hex_digit_value, hex_pairs, bytes_of}

-- the test of one digit, which computes
abbrev digit_prints_back : ℕ → Bool
digit_prints_back c = not (is_hex_digit c) || ((slice_index lower_digits (hex_digit_value c) == c) && nat_le (hex_digit_value c) 15)

digit_small : (c : ℕ) → is_hex_digit c ≡ true → c < 103
digit_small c h =
    elim (or_cases (nat_le 48 c && nat_le c 57) (nat_le 97 c && nat_le c 102) h) [
      | inl d ↦ let p = leb-true c 57 (and_parts (nat_le 48 c) (nat_le c 57) d).1 in omega (arith, p)
      | inr d ↦ let p = leb-true c 102 (and_parts (nat_le 97 c) (nat_le c 102) d).1 in omega (arith, p)
    ]

-- a digit's value prints as the digit
digit_prints : (c : ℕ) → is_hex_digit c ≡ true → (slice_index lower_digits (hex_digit_value c) ≡ c) × (hex_digit_value c ≤ 15)
digit_prints c h =
    elim (or_cases (not (is_hex_digit c)) ((slice_index lower_digits (hex_digit_value c) == c) && nat_le (hex_digit_value c) 15) (agree_below_at digit_prints_back (λ _. true) 103 c refl (digit_small c h))) [
      | inl n ↦ absurd (both_ways (is_hex_digit c) (not-true (is_hex_digit c) n) h)
      | inr d ↦
          let p = and_parts (slice_index lower_digits (hex_digit_value c) == c) (nat_le (hex_digit_value c) 15) d in
          (eqb-true _ _ p.0, leb-true _ _ p.1)
    ]

abbrev digit_reads_back : ℕ → Bool
digit_reads_back v = is_hex_digit (slice_index lower_digits v) && (hex_digit_value (slice_index lower_digits v) == v)

-- what a value prints as reads as the value
digit_reads : (v : ℕ) → v < 16 → (is_hex_digit (slice_index lower_digits v) ≡ true) × (hex_digit_value (slice_index lower_digits v) ≡ v)
digit_reads v small =
    let p = and_parts (is_hex_digit (slice_index lower_digits v)) (hex_digit_value (slice_index lower_digits v) == v) (agree_below_at digit_reads_back (λ _. true) 16 v refl small) in
    (p.0, eqb-true _ _ p.1)

-- pairs of digits print as themselves
encode_lower-hex_pairs : (f : List ℕ) → length f % 2 ≡ 0 → list_all is_hex_digit f ≡ true → encode_lower (hex_pairs f) ≡ f
unfolding encode_with
encode_lower-hex_pairs [] even digits = refl
encode_lower-hex_pairs (d ∷ []) even digits = absurd (omega arith)
encode_lower-hex_pairs (h ∷ l ∷ rest) even digits =
    let p = and_parts (is_hex_digit h) (is_hex_digit l && list_all is_hex_digit rest) digits in
    let q = and_parts (is_hex_digit l) (list_all is_hex_digit rest) p.1 in
    let high = digit_prints h p.0 in
    let low = digit_prints l q.0 in
    let upper : (16 * hex_digit_value h + hex_digit_value l) / 16 ≡ hex_digit_value h = omega (arith, low.1) in
    let lower : (16 * hex_digit_value h + hex_digit_value l) % 16 ≡ hex_digit_value l = omega (arith, low.1) in
    let more = encode_lower-hex_pairs rest (omega arith) q.1 in
    ap (λ v. slice_index lower_digits v ∷ slice_index lower_digits ((16 * hex_digit_value h + hex_digit_value l) % 16) ∷ encode_lower (hex_pairs rest)) upper
    ∙ ap (λ v. slice_index lower_digits (hex_digit_value h) ∷ slice_index lower_digits v ∷ encode_lower (hex_pairs rest)) lower
    ∙ ap (λ c. c ∷ slice_index lower_digits (hex_digit_value l) ∷ encode_lower (hex_pairs rest)) high.0
    ∙ ap (λ c. h ∷ c ∷ encode_lower (hex_pairs rest)) low.0
    ∙ ap (λ t. h ∷ l ∷ t) more

length-hex_pairs : (f : List ℕ) → length f % 2 ≡ 0 → 2 * length (hex_pairs f) ≡ length f
length-hex_pairs [] even = refl
length-hex_pairs (d ∷ []) even = absurd (omega arith)
length-hex_pairs (h ∷ l ∷ rest) even = let more = length-hex_pairs rest (omega arith) in omega (arith, more)

hex_pairs-are_bytes : (f : List ℕ) → list_all is_hex_digit f ≡ true → All (λ b. b < 256) (hex_pairs f)
hex_pairs-are_bytes [] digits = All-nil (λ b. b < 256)
hex_pairs-are_bytes (d ∷ []) digits = All-nil (λ b. b < 256)
hex_pairs-are_bytes (h ∷ l ∷ rest) digits =
    let p = and_parts (is_hex_digit h) (is_hex_digit l && list_all is_hex_digit rest) digits in
    let q = and_parts (is_hex_digit l) (list_all is_hex_digit rest) p.1 in
    let high = (digit_prints h p.0).1 in
    let low = (digit_prints l q.0).1 in
    All-cons (λ b. b < 256) (16 * hex_digit_value h + hex_digit_value l) (hex_pairs rest) (omega (arith, high, low)) (hex_pairs-are_bytes rest q.1)

-- bytes print as pairs of digits
pub length-encode_lower : (bs : List ℕ) → length (encode_lower bs) ≡ 2 * length bs
unfolding encode_with
length-encode_lower [] = refl
length-encode_lower (b ∷ rest) = let more = length-encode_lower rest in omega (arith, more)

pub digits-encode_lower : (bs : List ℕ) → All (λ b. b < 256) bs → list_all is_hex_digit (encode_lower bs) ≡ true
unfolding encode_with
digits-encode_lower [] small = refl
digits-encode_lower (b ∷ rest) small =
    let here : b < 256 = All-head (λ x. x < 256) b rest small in
    let high = (digit_reads (b / 16) (omega arith)).0 in
    let low = (digit_reads (b % 16) (omega arith)).0 in
    and_from _ _ high (and_from _ _ low (digits-encode_lower rest (All-tail (λ x. x < 256) b rest small)))

hex_pairs-encode_lower : (bs : List ℕ) → All (λ b. b < 256) bs → hex_pairs (encode_lower bs) ≡ bs
unfolding encode_with
hex_pairs-encode_lower [] small = refl
hex_pairs-encode_lower (b ∷ rest) small =
    let here : b < 256 = All-head (λ x. x < 256) b rest small in
    let high = (digit_reads (b / 16) (omega arith)).1 in
    let low = (digit_reads (b % 16) (omega arith)).1 in
    let whole : 16 * hex_digit_value (slice_index lower_digits (b / 16)) + hex_digit_value (slice_index lower_digits (b % 16)) ≡ b = omega (arith, high, low) in
    ap (λ v. v ∷ hex_pairs (encode_lower rest)) whole ∙ ap (λ t. b ∷ t) (hex_pairs-encode_lower rest (All-tail (λ x. x < 256) b rest small))

-- what is read as bytes is spelt so
pub record AreBytes (f bs : List ℕ) : Type 0 where
  pub spelt : f ≡ encode_lower bs
  pub some : 1 ≤ length bs
  pub most : length bs ≤ 65536
  pub bytes_all : All (λ b. b < 256) bs

hex_is : (f : List ℕ) → is_hex f ≡ true → AreBytes f (hex_pairs f)
hex_is f h =
    let p = and_parts (length f % 2 == 0) _ h in
    let q = and_parts (nat_le 2 (length f)) _ p.1 in
    let r = and_parts (nat_le (length f) 131072) (list_all is_hex_digit f) q.1 in
    let even = eqb-true (length f % 2) 0 p.0 in
    let least = leb-true 2 (length f) q.0 in
    let most = leb-true (length f) 131072 r.0 in
    let len = length-hex_pairs f even in
    record {
      spelt = sym (encode_lower-hex_pairs f even r.1);
      some = omega (arith, len, least);
      most = omega (arith, len, most);
      bytes_all = hex_pairs-are_bytes f r.1;
    }

pub bytes_of-Some : (f bs : List ℕ) → bytes_of f ≡ Some bs → AreBytes f bs
unfolding bytes_of
bytes_of-Some f bs h =
    let p = cond_some (is_hex f) (hex_pairs f) bs h in
    rw p.1 at (hex_is f p.0)

pub bytes_of-encode_lower : (bs : List ℕ) → 1 ≤ length bs → length bs ≤ 65536 → All (λ b. b < 256) bs → bytes_of (encode_lower bs) ≡ Some bs
unfolding bytes_of
bytes_of-encode_lower bs some most small =
    let len = length-encode_lower bs in
    let test : is_hex (encode_lower bs) ≡ true = and_from _ _ (eq-eqb (length (encode_lower bs) % 2) 0 (omega (arith, len))) (and_from _ _ (le-leb 2 (length (encode_lower bs)) (omega (arith, len))) (and_from _ _ (le-leb (length (encode_lower bs)) 131072 (omega (arith, len))) (digits-encode_lower bs small))) in
    rw test (ap Some (hex_pairs-encode_lower bs small))
