-- Input that is read piece by piece.
use Rattle.std.proofs.Common.{ℕ, List, [], ◌++◌, Option, Some, None, refl, sym, ap, ◌∙◌, append_assoc}
use Rattle.std.specs.Io.KnownBytes.{Consumes, Keeps}

pub consumes_none : (i : Option (List ℕ)) → Consumes i i []
consumes_none None = tt
consumes_none (Some xs) = refl

pub consumes_kept : (i m n : Option (List ℕ)) (xs : List ℕ) → Consumes i m xs → Keeps m n → Consumes i n xs
consumes_kept None m n xs h k = tt
consumes_kept (Some b) None n xs h k = absurd h
consumes_kept (Some b) (Some l) None xs h k = absurd k
consumes_kept (Some b) (Some l) (Some r) xs h k = h ∙ ap (λ (t : List ℕ). xs ++ t) (sym k)

pub consumes_more : (i m n : Option (List ℕ)) (xs ys : List ℕ) → Consumes i m xs → Consumes m n ys → Consumes i n (xs ++ ys)
consumes_more None m n xs ys h k = tt
consumes_more (Some b) None n xs ys h k = absurd h
consumes_more (Some b) (Some l) None xs ys h k = absurd k
consumes_more (Some b) (Some l) (Some r) xs ys h k = h ∙ ap (λ (t : List ℕ). xs ++ t) k ∙ sym (append_assoc xs ys r)
