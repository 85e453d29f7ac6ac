-- Counting what a change of one place changes.
use Rattle.std.proofs.Common.{Bool, List, [], arith, cond, get_or, set, length, ap, sym, zero, suc, ℕ, ◌+◌, ◌<◌, ◌∙◌, ◌∷◌, ◌≡◌}
use Rattle.std.specs.List.{count_by}
use Rattle.std.proofs.lemmas.List.Sums.{sum_by-cons}

abbrev pub one_if : Bool → ℕ
one_if b = cond b 1 0

swapped : (a b n : ℕ) → a + n + b ≡ b + n + a
swapped a b n = omega arith

behind : (a m o n x : ℕ) → m + o ≡ n + x → a + m + o ≡ a + n + x
behind a m o n x e = omega arith

pub count_cons : {A : Type 0} (p : A → Bool) (x : A) (xs : List A) → count_by p (x ∷ xs) ≡ one_if (p x) + count_by p xs
count_cons p x xs = sum_by-cons (λ y. one_if (p y)) x xs

-- what one place adds to a count, before and after
pub count_set : {A : Type 0} (p : A → Bool) (xs : List A) (i : ℕ) (x d : A) → i < length xs → count_by p (set xs i x) + one_if (p (get_or xs i d)) ≡ count_by p xs + one_if (p x)
count_set p [] i x d h = absurd (omega arith)
count_set p (y ∷ ys) zero x d h =
    ap (λ n. n + one_if (p y)) (count_cons p x ys) ∙ (swapped (one_if (p x)) (one_if (p y)) (count_by p ys) ∙ sym (ap (λ n. n + one_if (p x)) (count_cons p y ys)))
count_set p (y ∷ ys) (suc i) x d h =
    let rest = count_set p ys i x d (omega arith) in
    ap (λ n. n + one_if (p (get_or ys i d))) (count_cons p y (set ys i x))
    ∙ (behind (one_if (p y)) (count_by p (set ys i x)) (one_if (p (get_or ys i d))) (count_by p ys) (one_if (p x)) rest ∙ sym (ap (λ n. n + one_if (p x)) (count_cons p y ys)))
