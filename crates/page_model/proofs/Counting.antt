-- Counting the regions that pass a test.
use Rattle.std.proofs.Common.{Bool, List, Some, [], ap, arith, cond, false, filter, inl, inr, length, refl, slice_get, suc, sym, true, zero, ℕ, ◌+◌, ◌<◌, ◌∙◌, ◌∷◌, ◌≡◌, ◌≢◌, ◌≤◌}
use Rattle.std.proofs.lemmas.Bool.{cases_eq}
use Rattle.std.specs.List.{range_with_len}

count_one : (b : Bool) (a : ℕ) (xs ys : List ℕ) → length xs ≡ length ys → length (cond b (a ∷ xs) xs) ≡ length (cond b (a ∷ ys) ys)
count_one true a xs ys e = omega arith
count_one false a xs ys e = e

pub count_same : (p q : ℕ → Bool) (a n : ℕ) → ((j : ℕ) → j < a + n → p j ≡ q j) → length (filter p (range_with_len a n)) ≡ length (filter q (range_with_len a n))
count_same p q a zero f = refl
count_same p q a (suc n) f =
    let rest : length (filter p (range_with_len (a + 1) n)) ≡ length (filter q (range_with_len (a + 1) n)) = count_same p q (a + 1) n (λ j lt. f j (omega arith)) in
    let here : p a ≡ q a = f a (omega arith) in
    ap (λ b. length (cond b (a ∷ filter p (range_with_len (a + 1) n)) (filter p (range_with_len (a + 1) n)))) here ∙ count_one (q a) a (filter p (range_with_len (a + 1) n)) (filter q (range_with_len (a + 1) n)) rest

count_in : (b c : Bool) (a : ℕ) (xs ys : List ℕ) → b ≡ false → c ≡ true → length xs ≡ length ys → length (cond c (a ∷ ys) ys) ≡ length (cond b (a ∷ xs) xs) + 1
count_in b c a xs ys e f g = rw (e, f) (omega arith)

count_on : (b : Bool) (a : ℕ) (xs ys : List ℕ) → length ys ≡ length xs + 1 → length (cond b (a ∷ ys) ys) ≡ length (cond b (a ∷ xs) xs) + 1
count_on true a xs ys e = omega arith
count_on false a xs ys e = e

-- one number more passes, and the others as before
pub count_more : (p q : ℕ → Bool) (i a n : ℕ) → a ≤ i → i < a + n → p i ≡ false → q i ≡ true → ((j : ℕ) → j ≢ i → p j ≡ q j) → length (filter q (range_with_len a n)) ≡ length (filter p (range_with_len a n)) + 1
count_more p q i a zero le lt before after f = absurd (omega arith)
count_more p q i a (suc n) le lt before after f = elim (cases_eq a i) [
  | inl e ↦
      let was : p a ≡ false = rw e before in
      let now : q a ≡ true = rw e after in
      let rest : length (filter p (range_with_len (a + 1) n)) ≡ length (filter q (range_with_len (a + 1) n)) = later p q (a + 1) n (λ j ge. f j (λ x. absurd (omega arith))) in
      count_in (p a) (q a) a (filter p (range_with_len (a + 1) n)) (filter q (range_with_len (a + 1) n)) was now rest
  | inr ne ↦
      let rest : length (filter q (range_with_len (a + 1) n)) ≡ length (filter p (range_with_len (a + 1) n)) + 1 = count_more p q i (a + 1) n (grind arith) (omega arith) before after f in
      ap (λ b. length (cond b (a ∷ filter q (range_with_len (a + 1) n)) (filter q (range_with_len (a + 1) n)))) (sym (f a ne)) ∙ count_on (p a) a (filter p (range_with_len (a + 1) n)) (filter q (range_with_len (a + 1) n)) rest
]
  where
    later : (p q : ℕ → Bool) (a n : ℕ) → ((j : ℕ) → a ≤ j → p j ≡ q j) → length (filter p (range_with_len a n)) ≡ length (filter q (range_with_len a n))
    later p q a zero f = refl
    later p q a (suc n) f =
        ap (λ b. length (cond b (a ∷ filter p (range_with_len (a + 1) n)) (filter p (range_with_len (a + 1) n)))) (f a (omega arith)) ∙ count_one (q a) a (filter p (range_with_len (a + 1) n)) (filter q (range_with_len (a + 1) n)) (later p q (a + 1) n (λ j ge. f j (omega arith)))

-- regions and list members, counted side by side
pub count_zip : {A : Type 0} (p : A → Bool) (q : ℕ → Bool) (xs : List A) (a : ℕ) → ((j : ℕ) (x : A) → slice_get xs j ≡ Some x → p x ≡ q (a + j)) → length (filter p xs) ≡ length (filter q (range_with_len a (length xs)))
count_zip p q [] a f = refl
count_zip {A} p q (x ∷ xs) a f =
    let rest : length (filter p xs) ≡ length (filter q (range_with_len (a + 1) (length xs))) = count_zip p q xs (a + 1) (λ j y is. let n : a + suc j ≡ a + 1 + j = omega arith in f (suc j) y is ∙ ap q n) in
    let here : p x ≡ q a = let n : a + 0 ≡ a = omega arith in f 0 x refl ∙ ap q n in
    go (p x) (q a) here (filter p xs) (filter q (range_with_len (a + 1) (length xs))) rest
  where
    go : (b c : Bool) → b ≡ c → (ys : List A) (ns : List ℕ) → length ys ≡ length ns → length (cond b (x ∷ ys) ys) ≡ length (cond c (a ∷ ns) ns)
    go true true e ys ns l = omega arith
    go false false e ys ns l = l
    go true false e ys ns l = absurd cc
    go false true e ys ns l = absurd cc

pub count_none : {A : Type 0} (p : A → Bool) (xs : List A) → ((x : A) → p x ≡ false) → length (filter p xs) ≡ 0
count_none p [] f = refl
count_none {A} p (x ∷ xs) f = ap (λ b. length (cond b (x ∷ filter p xs) (filter p xs))) (f x) ∙ count_none p xs f
