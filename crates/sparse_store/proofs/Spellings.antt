-- Digits, and the one spelling of a number.
use Rattle.std.proofs.Common.{◌≡◌, ◌⊎◌, inl, inr, ℕ, zero, suc, ◌+◌, ◌-◌, ◌*◌, ◌/◌, ◌<◌, ◌≤◌, ◌^◌, List, ◌++◌, length, take, drop, get_or, ◌∙◌, ap, sym, subst, refl, arith}
use Rattle.std.specs.Fmt.{decimal}
use Rattle.std.specs.Int.{IsInRange}
use Rattle.std.specs.Str.Parse.{AllDigits, digits_value}
use Rattle.std.proofs.lemmas.Bool.{cases_lt}
use Rattle.std.proofs.lemmas.Fmt.{decimal_is_IsNumeral, decimal_nonempty, decimal-digits_value, decimal_injective, decimal_digit, first_decimal}
use Rattle.std.proofs.lemmas.Int.Digits.{digits_value_more}
use Rattle.std.proofs.lemmas.List.{append_cancel_left, get_or_append_left, get_or-append-add, get_or-take, length-append, length-take-le, take-append-drop, take-append-le}
use Rattle.std.proofs.Math.Seq.{take-append_seam}
use Rattle.std.proofs.lemmas.Str.{digit_value_digit}
use Rattle.std.proofs.lemmas.Str.Parse.{digits_value-take-le, numerals_by_value, tells_by_index, tells_digits}
use Rattle.sparse_store.specs.declared.meta.TheConstants.{MOST_META_NUMBER}
use Rattle.sparse_store.specs.InsideMetas.{EndsDigits, Numbered}

pub digits_by_place : (f : List ℕ) → AllDigits 10 f → (i : ℕ) → i < length f → IsInRange 48 57 (get_or f i 0)
digits_by_place f d = (numerals_by_value (λ ds. (i : ℕ) → i < length ds → IsInRange 48 57 (get_or ds i 0)) tells_by_index).from f d

pub all_digits : (f : List ℕ) → ((i : ℕ) → i < length f → IsInRange 48 57 (get_or f i 0)) → AllDigits 10 f
all_digits f h = (numerals_by_value (λ ds. (i : ℕ) → i < length ds → IsInRange 48 57 (get_or ds i 0)) tells_by_index).to f h

-- one digit more
pub value_more : (f : List ℕ) (i value : ℕ) → i < length f → value ≡ digits_value 10 (take i f) → IsInRange 48 57 (get_or f i 0) → digits_value 10 (take (i + 1) f) ≡ value * 10 + (get_or f i 0 - 48)
value_more f i value below is range = omega (arith, is, digits_value_more 10 f i below, digit_value_digit (get_or f i 0) range)

-- digits of which the first isn't 0 are the spelling of their value
pub spelt : (f : List ℕ) (n : ℕ) → 0 < length f → 48 < get_or f 0 0 → AllDigits 10 f → n ≡ digits_value 10 f → n < 2 ^ 64 → decimal n ≡ f
spelt f n some first d is small = ap decimal is ∙ decimal-digits_value (numerals_by_value (AllDigits 10) tells_digits) f d some (λ zero. absurd (omega (arith, first, zero))) (omega (arith, is, small))

-- ---- the spelling of a number in the range

pub digits_of_decimal : (v : ℕ) → v ≤ MOST_META_NUMBER → (i : ℕ) → i < length (decimal v) → IsInRange 48 57 (get_or (decimal v) i 0)
digits_of_decimal v most = digits_by_place (decimal v) (decimal_is_IsNumeral v (omega arith)).0.1

value_of_decimal : (v : ℕ) → v ≤ MOST_META_NUMBER → digits_value 10 (decimal v) ≡ v
value_of_decimal v most = (decimal_is_IsNumeral v (omega arith)).1

pub some_digits : (v : ℕ) → v ≤ MOST_META_NUMBER → 0 < length (decimal v)
some_digits v most = decimal_nonempty v (omega arith)

pub first_digit : (v : ℕ) → 1 ≤ v → v ≤ MOST_META_NUMBER → IsInRange 49 57 (get_or (decimal v) 0 0)
first_digit v least most =
    let d = digits_of_decimal v most 0 (some_digits v most) in
    (omega (arith, first_decimal v (omega arith) (omega arith)), d.1)

-- ---- a number that is as long as it may be is the one that stands there

-- behind a number stands something else
abbrev pub StandsBehind : List ℕ → Type 0
StandsBehind u = (0 < length u) × (IsInRange 48 57 (get_or u 0 0) → ⊥)

byte_behind : (s x t u : List ℕ) (i : ℕ) → s ++ x ≡ t ++ u → i ≡ length s → i < length t → get_or x 0 0 ≡ get_or t i 0
byte_behind s x t u i e is below =
    subst (λ n. get_or x 0 0 ≡ get_or t n 0) (sym is)
    (let low : length s < length t = omega (arith, is, below) in
    sym (get_or-append-add s x 0 0) ∙ plus s x ∙ ap (λ l. get_or l (length s) 0) e ∙ get_or_append_left t u 0 (length s) low)
  where
    plus : (a b : List ℕ) → get_or (a ++ b) (length a + 0) 0 ≡ get_or (a ++ b) (length a) 0
    plus a b = ap (λ n. get_or (a ++ b) n 0) (omega arith)

-- the value of a longer number is ten times this one at least
longer : (v w : ℕ) (x u : List ℕ) → v ≤ MOST_META_NUMBER → w ≤ MOST_META_NUMBER → decimal v ++ x ≡ decimal w ++ u → length (decimal v) < length (decimal w) → v * 10 ≤ w
longer v w x u small most e less =
    let i = length (decimal v) in
    let front : decimal v ≡ take i (decimal w) = sym (take-append_seam (decimal v) x) ∙ ap (take i) e ∙ take-append-le i (decimal w) u (omega arith) in
    let value : v ≡ digits_value 10 (take i (decimal w)) = sym (value_of_decimal v small) ∙ ap (digits_value 10) front in
    let more = value_more (decimal w) i v less value (digits_of_decimal w most i less) in
    omega (arith, more, digits_value-take-le 10 (decimal w) (i + 1) (omega arith), value_of_decimal w most)

pub same_number : (v w : ℕ) (x u : List ℕ) → v ≤ MOST_META_NUMBER → w ≤ MOST_META_NUMBER → (MOST_META_NUMBER / 10 < v) ⊎ EndsDigits x → StandsBehind u → decimal v ++ x ≡ decimal w ++ u → (v ≡ w) × (x ≡ u)
same_number v w x u small most ends other e =
    let lengths : length (decimal v) + length x ≡ length (decimal w) + length u = sym (length-append (decimal v) x) ∙ ap length e ∙ length-append (decimal w) u in
    elim (cases_lt (length (decimal v)) (length (decimal w))) [
      | inl less ↦ absurd (shorter less (omega (arith, lengths, less)) ends)
      | inr more ↦ elim (cases_lt (length (decimal w)) (length (decimal v))) [
        | inl less ↦ absurd (other.1 (subst (IsInRange 48 57) (sym (byte_behind (decimal w) u (decimal v) x _ (sym e) refl less)) (digits_of_decimal v small _ less)))
        | inr least ↦ equal (omega (arith, more, least))
      ]
    ]
  where
    shorter : length (decimal v) < length (decimal w) → 0 < length x → (MOST_META_NUMBER / 10 < v) ⊎ EndsDigits x → ⊥
    shorter less some (inl big) = omega (arith, big, longer v w x u small most e less)
    shorter less some (inr end) = end some (subst (IsInRange 48 57) (sym (byte_behind (decimal v) x (decimal w) u _ e refl less)) (digits_of_decimal w most _ less))

    equal : length (decimal v) ≡ length (decimal w) → (v ≡ w) × (x ≡ u)
    equal same =
        let front : decimal v ≡ decimal w = sym (take-append_seam (decimal v) x) ∙ ap (take (length (decimal v))) e ∙ ap (λ n. take n (decimal w ++ u)) same ∙ take-append_seam (decimal w) u in
        (decimal_injective v w (omega arith) (omega arith) front, append_cancel_left (decimal w) x u (ap (λ s. s ++ x) (sym front) ∙ e))

-- ---- the number that stands at the beginning of a text

pub digits_up_to : (f : List ℕ) (n : ℕ) → n ≤ length f → ((k : ℕ) → k < n → IsInRange 48 57 (get_or f k 0)) → AllDigits 10 (take n f)
digits_up_to f n fits each = all_digits (take n f) (λ k below.
    let low : k < n = omega (arith, below, length-take-le n f fits) in
    subst (IsInRange 48 57) (sym (get_or-take n f k 0 low)) (each k low))

pub number_here : (bytes : List ℕ) (count value : ℕ) → count ≤ length bytes → 0 < count → (get_or bytes 0 0 ≡ 48 → ⊥) → AllDigits 10 (take count bytes) → value ≡ digits_value 10 (take count bytes) → value ≤ MOST_META_NUMBER → (MOST_META_NUMBER / 10 < value) ⊎ EndsDigits (drop count bytes) → Numbered bytes value (drop count bytes)
number_here bytes count value fits some other all is most ends =
    let long : 0 < length (take count bytes) = omega (arith, some, length-take-le count bytes fits) in
    let first : 48 < get_or (take count bytes) 0 0 = greater (get_or (take count bytes) 0 0) (digits_by_place (take count bytes) all 0 long) (λ e. other (sym (get_or-take count bytes 0 0 some) ∙ e)) in
    let same : decimal value ≡ take count bytes = spelt (take count bytes) value long first all is (omega (arith, most)) in
    record {
      spelt = sym (take-append-drop count bytes) ∙ ap (λ l. l ++ drop count bytes) (sym same);
      least = positive value same first;
      most = most;
      ends = ends;
    }
  where
    greater : (d : ℕ) → IsInRange 48 57 d → (d ≡ 48 → ⊥) → 48 < d
    greater d range other = elim (cases_lt 48 d) [
      | inl less ↦ less
      | inr more ↦ absurd (other (omega (arith, range.0, more)))
    ]

    positive : (v : ℕ) → decimal v ≡ take count bytes → 48 < get_or (take count bytes) 0 0 → 1 ≤ v
    positive zero e first = absurd (omega (arith, first, ap (λ l. get_or l 0 0) e, ap (λ l. get_or l 0 0) (decimal_digit 0 (omega arith))))
    positive (suc v) e first = omega arith
