-- The one spelling of a number.
use Rattle.std.proofs.Common.{◌≡◌, ◌⊎◌, inl, inr, ℕ, zero, suc, ◌+◌, ◌-◌, ◌*◌, ◌<◌, ◌≤◌, ◌^◌, Bool, true, false, cond, ◌&&◌, List, length, take, get_or, Some, None, ◌∙◌, ap, sym, subst, refl, nat_le, arith}
use Rattle.std.specs.Fmt.{decimal}
use Rattle.std.specs.Int.{IsInRange}
use Rattle.std.specs.Str.{bytes_eq}
use Rattle.std.specs.Str.Parse.{AllDigits, digits_value}
use Rattle.std.proofs.lemmas.Bool.{and_parts, and_from, leb-true, le-leb}
use Rattle.std.proofs.lemmas.Fmt.{decimal_is_IsNumeral, decimal_nonempty, decimal-digits_value, first_decimal, length-decimal-le_succ}
use Rattle.std.proofs.lemmas.Int.Digits.{digits_value_more}
use Rattle.std.proofs.lemmas.Slice.Eq.{bytes_eq-Decides}
use Rattle.std.proofs.lemmas.Str.{digit_value_digit}
use Rattle.std.proofs.lemmas.Str.Parse.{digits_value-take-le, numerals_by_value, tells_by_index, tells_digits}
use Rattle.std.proofs.lemmas.Option.{cond_some}
use Rattle.workload_text.specs.Reading.{number_of}

cond_none : {A : Type 0} (b : Bool) (x : A) → (b ≡ true → ⊥) → cond b (Some x) None ≡ None
cond_none true x h = absurd (h refl)
cond_none false x h = refl

-- the one spelling of a number is read as it
pub number_of-decimal : (least most n : ℕ) (f : List ℕ) → n < 2 ^ 64 → least ≤ n → n ≤ most → f ≡ decimal n → number_of least most f ≡ Some n
unfolding number_of
number_of-decimal least most n f small low high e =
    let v : digits_value 10 f ≡ n = ap (digits_value 10) e ∙ (decimal_is_IsNumeral n small).1 in
    let same = (bytes_eq-Decides f (decimal n)).1 e in
    rw v (rw (and_from _ _ same (and_from _ _ (le-leb least n low) (le-leb n most high))) refl)

-- what is no spelling of a number is none
pub number_of-none : (least most : ℕ) (f : List ℕ) → ((n : ℕ) → least ≤ n → n ≤ most → f ≡ decimal n → ⊥) → number_of least most f ≡ None
unfolding number_of
number_of-none least most f never =
    cond_none _ (digits_value 10 f) (λ h.
    let p = and_parts (bytes_eq f (decimal (digits_value 10 f))) (nat_le least (digits_value 10 f) && nat_le (digits_value 10 f) most) h in
    let q = and_parts (nat_le least (digits_value 10 f)) (nat_le (digits_value 10 f) most) p.1 in
    never (digits_value 10 f) (leb-true _ _ q.0) (leb-true _ _ q.1) ((bytes_eq-Decides f (decimal (digits_value 10 f))).0 p.0))

-- what is read is spelt so
pub number_of-Some : (least most n : ℕ) (f : List ℕ) → number_of least most f ≡ Some n → (f ≡ decimal n) × (least ≤ n) × (n ≤ most)
unfolding number_of
number_of-Some least most n f h =
    let p = cond_some (bytes_eq f (decimal (digits_value 10 f)) && (nat_le least (digits_value 10 f) && nat_le (digits_value 10 f) most)) (digits_value 10 f) n h in
    let q = and_parts (bytes_eq f (decimal (digits_value 10 f))) (nat_le least (digits_value 10 f) && nat_le (digits_value 10 f) most) p.0 in
    let r = and_parts (nat_le least (digits_value 10 f)) (nat_le (digits_value 10 f) most) q.1 in
    ((bytes_eq-Decides f (decimal (digits_value 10 f))).0 q.0 ∙ ap decimal p.1, rw p.1 at (leb-true _ _ r.0), rw p.1 at (leb-true _ _ r.1))

-- ---- digits

digits_by_place : (f : List ℕ) → AllDigits 10 f → (i : ℕ) → i < length f → IsInRange 48 57 (get_or f i 0)
digits_by_place f d = (numerals_by_value (λ ds. (i : ℕ) → i < length ds → IsInRange 48 57 (get_or ds i 0)) tells_by_index).from f d

pub no_digits : (f : List ℕ) (i : ℕ) → i < length f → (get_or f i 0 < 48) ⊎ (57 < get_or f i 0) → AllDigits 10 f → ⊥
no_digits f i below (inl low) d = let r = digits_by_place f d i below in omega (arith, low, r.0)
no_digits f i below (inr high) d = let r = digits_by_place f d i below in omega (arith, high, r.1)

pub all_digits : (f : List ℕ) → ((i : ℕ) → i < length f → IsInRange 48 57 (get_or f i 0)) → AllDigits 10 f
all_digits f h = (numerals_by_value (λ ds. (i : ℕ) → i < length ds → IsInRange 48 57 (get_or ds i 0)) tells_by_index).to f h

-- one digit more
pub value_more : (f : List ℕ) (i value : ℕ) → i < length f → value ≡ digits_value 10 (take i f) → IsInRange 48 57 (get_or f i 0) → digits_value 10 (take (i + 1) f) ≡ value * 10 + (get_or f i 0 - 48)
value_more f i value below is range = omega (arith, is, digits_value_more 10 f i below, digit_value_digit (get_or f i 0) range)

-- the digits so far say no more than all
pub value_up : (f : List ℕ) (i n : ℕ) → n ≤ digits_value 10 (take i f) → n ≤ digits_value 10 f
value_up f i n h = omega (arith, h, digits_value-take-le 10 f i (omega arith))

-- ---- one spelling

abbrev pub IsPlain : List ℕ → Type 0
IsPlain f = (0 < length f) × (get_or f 0 0 ≡ 48 → length f ≡ 1)

-- plain digits are the spelling of their value
pub plain_is : (f : List ℕ) (n : ℕ) → IsPlain f → AllDigits 10 f → n ≡ digits_value 10 f → n < 2 ^ 64 → f ≡ decimal n
plain_is f n plain d is small = sym (decimal-digits_value (numerals_by_value (AllDigits 10) tells_digits) f d plain.0 plain.1 (omega (arith, is, small))) ∙ ap decimal (sym is)

-- and a spelling is plain digits of its value
pub spelling_is : (f : List ℕ) (n : ℕ) → n < 2 ^ 64 → f ≡ decimal n → IsPlain f × AllDigits 10 f × (digits_value 10 f ≡ n)
spelling_is f n small e =
    let d = decimal_is_IsNumeral n small in
    let P : List ℕ → Type 0 = λ x. IsPlain x × AllDigits 10 x × (digits_value 10 x ≡ n) in
    subst P (sym e) ((d.0.0, lead n small), d.0.1, d.1)
  where
    lead : (m : ℕ) → m < 2 ^ 64 → get_or (decimal m) 0 0 ≡ 48 → length (decimal m) ≡ 1
    lead zero low first = omega (arith, length-decimal-le_succ 0 low, decimal_nonempty 0 low)
    lead (suc m) low first = absurd (omega (arith, first, first_decimal (suc m) (omega arith) low))
