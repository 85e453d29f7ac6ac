-- Sums over views.
use Rattle.std.proofs.Common.{◌≡◌, ◌≢◌, ℕ, zero, suc, ◌+◌, ◌*◌, ◌<◌, ◌≤◌, true, false, eqb, ltb, List, [], ◌∷◌, ◌++◌, set, sym, refl, ap, arith, add-mul, eq-eqb, ne_eqb}
use mathlib.Core.Logic.{dite}
use mathlib.Core.Option.{some, some-injective, some-ne-none}
use native.Mathlib.Decide.{ℕ_discrete, dec_lt}
use lib.ListN.{get_elem?}
use Rattle.std.proofs.lemmas.Bool.{lt-ltb, le-ltb}
use Rattle.turn_lock.specs.InsideRule.{one_if, total, below}

module _ {A : Type 0} (f : A → ℕ) where
  pub total_set : (l : List A) (j : ℕ) (v w : A) → get_elem? l j ≡ some v → total f (set l j w) + f v ≡ total f l + f w
  total_set [] j v w e = absurd (some-ne-none v (sym e))
  total_set (x ∷ xs) zero v w e = let is : f x ≡ f v = ap f (some-injective x v e) in omega arith
  total_set (x ∷ xs) (suc j) v w e = let r = total_set xs j v w e in omega arith

  pub total_at : (l : List A) (j : ℕ) (v : A) → get_elem? l j ≡ some v → f v ≤ total f l
  total_at [] j v e = absurd (some-ne-none v (sym e))
  total_at (x ∷ xs) zero v e = let is : f x ≡ f v = ap f (some-injective x v e) in omega arith
  total_at (x ∷ xs) (suc j) v e = let r = total_at xs j v e in omega arith

  pub total_two : (l : List A) (j k : ℕ) (v w : A) → j ≢ k → get_elem? l j ≡ some v → get_elem? l k ≡ some w → f v + f w ≤ total f l
  total_two [] j k v w n e d = absurd (some-ne-none v (sym e))
  total_two (x ∷ xs) zero zero v w n e d = absurd (n refl)
  total_two (x ∷ xs) zero (suc k) v w n e d = let is : f x ≡ f v = ap f (some-injective x v e) in let r = total_at xs k w d in omega arith
  total_two (x ∷ xs) (suc j) zero v w n e d = let is : f x ≡ f w = ap f (some-injective x w d) in let r = total_at xs j v e in omega arith
  total_two (x ∷ xs) (suc j) (suc k) v w n e d = let r = total_two xs j k v w (λ p. n (ap suc p)) e d in omega arith

  pub total_snoc : (l : List A) (w : A) → total f (l ++ w ∷ []) ≡ total f l + f w
  total_snoc [] w = omega arith
  total_snoc (x ∷ xs) w = let r = total_snoc xs w in omega arith

  -- where all others count nothing, the sum is the one
  pub total_one : (l : List A) (j : ℕ) (v : A) → get_elem? l j ≡ some v → ((i : ℕ) (u : A) → get_elem? l i ≡ some u → i ≢ j → f u ≡ 0) → total f l ≡ f v
  total_one [] j v e none = absurd (some-ne-none v (sym e))
  total_one (x ∷ xs) zero v e none =
      let is : f x ≡ f v = ap f (some-injective x v e) in let r = total_none xs (λ i u d. none (suc i) u d (λ z. omega arith)) in omega arith
    where
      total_none : (l : List A) → ((i : ℕ) (u : A) → get_elem? l i ≡ some u → f u ≡ 0) → total f l ≡ 0
      total_none [] h = refl
      total_none (y ∷ ys) h = let a = h 0 y refl in let r = total_none ys (λ i u d. h (suc i) u d) in omega arith
  total_one (x ∷ xs) (suc j) v e none =
      let a = none 0 x refl (λ z. omega arith) in let r = total_one xs j v e (λ i u d n. none (suc i) u d (λ z. n (omega arith))) in omega arith

-- of two sums, where each part of the first is at most k times that of the second
pub total_times : {A : Type 0} (f g : A → ℕ) (k : ℕ) (l : List A) → ((j : ℕ) (v : A) → get_elem? l j ≡ some v → f v ≤ g v * k) → total f l ≤ total g l * k
total_times f g k [] h = omega arith
total_times f g k (x ∷ xs) h = let a = h 0 x refl in let r = total_times f g k xs (λ j v e. h (suc j) v e) in
    let d : (g x + total g xs) * k ≡ g x * k + total g xs * k = add-mul (g x) (total g xs) k in let p : ℕ = g x * k in let q : ℕ = total g xs * k in rw d (omega arith)

pub below_next : (t n : ℕ) → below t (n + 1) ≡ below t n + one_if (eqb n t)
below_next t n = dite (ℕ_discrete n t)
    (λ e. rw (lt-ltb t (n + 1) (omega arith), le-ltb t n (omega arith), eq-eqb n t e) refl)
    (λ ne. rw (ne_eqb n t ne) (dite (dec_lt t n)
    (λ lt. rw (lt-ltb t (n + 1) (omega arith), lt-ltb t n lt) refl)
    (λ ge. rw (le-ltb t (n + 1) (omega arith), le-ltb t n (omega arith)) refl)))

pub below_yes : (t n : ℕ) → 1 ≤ below t n → t < n
below_yes t n h = dite (dec_lt t n) (λ lt. lt) (λ ge. let z = ap one_if (le-ltb t n (omega arith)) in absurd (omega arith))

pub below_no : (t n : ℕ) → below t n ≡ 0 → n ≤ t
below_no t n h = dite (dec_lt t n) (λ lt. let z = ap one_if (lt-ltb t n lt) in absurd (omega arith)) (λ ge. omega arith)

pub below_most : (t n : ℕ) → below t n ≤ 1
below_most t n = elim (ltb t n) as (λ b. one_if b ≤ 1) [ true ↦ omega arith | false ↦ omega arith ]

pub one_at : (n : ℕ) → one_if (eqb n n) ≡ 1
one_at n = ap one_if (eq-eqb n n refl)
