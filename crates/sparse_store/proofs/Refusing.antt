-- Texts made of labels and numbers, and how far another text goes with one.
use Rattle.std.proofs.Common.{◌≡◌, ◌⊎◌, inl, inr, ℕ, ◌+◌, ◌-◌, ◌/◌, ◌<◌, ◌≤◌, List, [], ◌++◌, length, take, drop, get_or, ◌∙◌, ap, sym, subst, refl, arith}
use Rattle.std.specs.Fmt.{decimal}
use Rattle.std.specs.Int.{IsInRange}
use Rattle.std.proofs.lemmas.List.{append_assoc, append_cancel_left, get_or_append_left, get_or-take, length-append, length-take-le, take-append-drop}
use Rattle.std.proofs.Math.Seq.{take-append-add}
use Rattle.sparse_store.specs.declared.meta.TheConstants.{MOST_META_NUMBER}
use Rattle.sparse_store.specs.InsideMetas.{StopsAt, EndsDigits, NoNumber}
use Rattle.sparse_store.proofs.Spellings.{StandsBehind, first_digit, same_number, some_digits}

-- the text is none of these, and its first n bytes are all with which one of them begins
pub record Refuses (L : List ℕ → Type 0) (bytes : List ℕ) (n : ℕ) : Type 0 where
  pub none : L bytes → ⊥
  pub within : n ≤ length bytes
  pub begins : (more : List ℕ) × L (take n bytes ++ more)
  pub longest : (k : ℕ) (more : List ℕ) → n < k → k ≤ length bytes → L (take k bytes ++ more) → ⊥

-- the label, and one of these behind it
abbrev pub Behind : List ℕ → (List ℕ → Type 0) → List ℕ → Type 0
Behind label K t = (u : List ℕ) × K u × (t ≡ label ++ u)

-- a number, and one of these behind it
abbrev pub NumberThen : (ℕ → List ℕ → Type 0) → List ℕ → Type 0
NumberThen K t = (v : ℕ) × (u : List ℕ) × (1 ≤ v) × (v ≤ MOST_META_NUMBER) × K v u × (t ≡ decimal v ++ u)

abbrev pub IsEnd : List ℕ → Type 0
IsEnd t = t ≡ []

byte_of : (t more s : List ℕ) (k n : ℕ) → n < k → k ≤ length t → take k t ++ more ≡ s → get_or t n 0 ≡ get_or s n 0
byte_of t more s k n low high e =
    sym (get_or-take k t n 0 low) ∙ sym (get_or_append_left (take k t) more 0 n (omega (arith, low, length-take-le k t high))) ∙ ap (λ l. get_or l n 0) e

-- ---- the end

pub not_ended : (bytes : List ℕ) → 0 < length bytes → Refuses IsEnd bytes 0
not_ended bytes some = record {
  none = λ e. omega (arith, some, ap length e);
  within = omega arith;
  begins = ([], refl);
  longest = λ k more low high e. omega (arith, low, high, length-take-le k bytes high, length-append (take k bytes) more, ap length e);
}

-- ---- a label

pub stops : {K : List ℕ → Type 0} (label bytes : List ℕ) (n : ℕ) (u : List ℕ) → K u → StopsAt bytes label n → Refuses (Behind label K) bytes n
stops label bytes n u k s = record {
  none = λ p. s.ends (omega (arith, s.short, ap length p.2, length-append label p.0)) (ap (λ l. get_or l n 0) p.2 ∙ get_or_append_left label p.0 0 n s.short);
  within = s.within;
  begins = (drop n label ++ u, (u, k, ap (λ l. l ++ (drop n label ++ u)) s.alike ∙ sym (append_assoc (take n label) (drop n label) u) ∙ ap (λ l. l ++ u) (take-append-drop n label)));
  longest = λ j more low high p. s.ends (omega (arith, low, high)) (byte_of bytes more (label ++ p.0) j n low high p.2 ∙ get_or_append_left label p.0 0 n s.short);
}

-- what stands behind a label refuses the whole
pub passes : {K : List ℕ → Type 0} (label tail : List ℕ) (n : ℕ) → Refuses K tail n → Refuses (Behind label K) (label ++ tail) (length label + n)
passes {K} label tail n r = record {
  none = λ p. r.none (subst K (sym (append_cancel_left label tail p.0 p.2)) p.1);
  within = omega (arith, r.within, length-append label tail);
  begins = (r.begins.0, (take n tail ++ r.begins.0, r.begins.1, ap (λ l. l ++ r.begins.0) (take-append-add label tail n) ∙ append_assoc label (take n tail) r.begins.0));
  longest = λ k more low high p.
      let j = k - length label in
      let is : k ≡ length label + j = omega (arith, low) in
      let cut : take k (label ++ tail) ≡ label ++ take j tail = ap (λ m. take m (label ++ tail)) is ∙ take-append-add label tail j in
      let e : label ++ (take j tail ++ more) ≡ label ++ p.0 = sym (append_assoc label (take j tail) more) ∙ ap (λ l. l ++ more) (sym cut) ∙ p.2 in
      r.longest j more (omega (arith, low)) (omega (arith, high, length-append label tail)) (subst K (sym (append_cancel_left label _ p.0 e)) p.1);
}

-- ---- a number

pub no_number : {K : ℕ → List ℕ → Type 0} (bytes u : List ℕ) → K 1 u → NoNumber bytes → Refuses (NumberThen K) bytes 0
no_number bytes u k none = record {
  none = λ p.
      let some = some_digits p.0 p.3 in
      none (omega (arith, some, ap length p.5, length-append (decimal p.0) p.1))
      (subst (IsInRange 49 57) (sym (ap (λ l. get_or l 0 0) p.5 ∙ get_or_append_left (decimal p.0) p.1 0 0 some)) (first_digit p.0 p.2 p.3));
  within = omega arith;
  begins = (decimal 1 ++ u, (1, u, omega arith, omega arith, k, refl));
  longest = λ j more low high p.
      let some = some_digits p.0 p.3 in
      none (omega (arith, low, high))
      (subst (IsInRange 49 57) (sym (byte_of bytes more (decimal p.0 ++ p.1) j 0 low high p.5 ∙ get_or_append_left (decimal p.0) p.1 0 0 some)) (first_digit p.0 p.2 p.3));
}

-- what stands behind a number refuses the whole
pub number_passes : {K : ℕ → List ℕ → Type 0} (v : ℕ) (tail : List ℕ) (n : ℕ) → ((w : ℕ) (u : List ℕ) → K w u → StandsBehind u) → 1 ≤ v → v ≤ MOST_META_NUMBER → (MOST_META_NUMBER / 10 < v) ⊎ EndsDigits tail → Refuses (K v) tail n → Refuses (NumberThen K) (decimal v ++ tail) (length (decimal v) + n)
number_passes {K} v tail n behind least most ends r = record {
  none = λ p.
      let s = same_number v p.0 tail p.1 most p.3 ends (behind p.0 p.1 p.4) p.5 in
      r.none (subst (K v) (sym s.1) (subst (λ m. K m p.1) (sym s.0) p.4));
  within = omega (arith, r.within, length-append (decimal v) tail);
  begins = (r.begins.0, (v, take n tail ++ r.begins.0, least, most, r.begins.1, ap (λ l. l ++ r.begins.0) (take-append-add (decimal v) tail n) ∙ append_assoc (decimal v) (take n tail) r.begins.0));
  longest = λ k more low high p.
      let j = k - length (decimal v) in
      let is : k ≡ length (decimal v) + j = omega (arith, low) in
      let some : 0 < j = omega (arith, low) in
      let fits : j ≤ length tail = omega (arith, high, length-append (decimal v) tail) in
      let cut : take k (decimal v ++ tail) ≡ decimal v ++ take j tail = ap (λ m. take m (decimal v ++ tail)) is ∙ take-append-add (decimal v) tail j in
      let e : decimal v ++ (take j tail ++ more) ≡ decimal p.0 ++ p.1 = sym (append_assoc (decimal v) (take j tail) more) ∙ ap (λ l. l ++ more) (sym cut) ∙ p.5 in
      let s = same_number v p.0 (take j tail ++ more) p.1 most p.3 (cut_ends j more some fits ends) (behind p.0 p.1 p.4) e in
      r.longest j more (omega (arith, low)) fits (subst (K v) (sym s.1) (subst (λ m. K m p.1) (sym s.0) p.4));
}
  where
    cut_ends : (j : ℕ) (more : List ℕ) → 0 < j → j ≤ length tail → (MOST_META_NUMBER / 10 < v) ⊎ EndsDigits tail → (MOST_META_NUMBER / 10 < v) ⊎ EndsDigits (take j tail ++ more)
    cut_ends j more some fits (inl big) = inl big
    cut_ends j more some fits (inr end) = inr (λ long range. end (omega (arith, some, fits)) (subst (IsInRange 48 57) (sym (byte_of tail more (take j tail ++ more) j 0 some fits refl)) range))
