-- Regions as their pages, joined: where a page lies in them, and what a changed page changes.
use Rattle.std.proofs.Common.{◌≡◌, inl, inr, ℕ, zero, suc, ◌*◌, ◌<◌, List, ◌++◌, length, get_or, refl, ap, ◌∙◌, arith, length-append}
use Rattle.std.specs.List.{enumerate_from}
use Rattle.std.proofs.lemmas.Bool.{cases_lt}
use Rattle.std.proofs.lemmas.List.{get_or-map, length-map}
use Rattle.std.proofs.lemmas.List.FromFn.{length-enumerate_from, get_or-enumerate_from}
use Rattle.store_trait.specs.Memory.{page_bytes}
use Rattle.script_run.specs.Contents.{joined, contents_by}
use Rattle.script_run.proofs.Lists.{rows_apart, page_of-append, page_of-appended}

-- each page below n has one page of bytes
pub record AreWhole (size n : ℕ) (page : ℕ → List ℕ) : Type 0 where
  pub each : (p : ℕ) → p < n → length (page p) ≡ size

fewer : (size n : ℕ) (page : ℕ → List ℕ) → AreWhole size (suc n) page → AreWhole size n page
fewer size n page whole = record { each = λ p below. whole.each p (omega arith) }

pub length-joined : (size n : ℕ) (page : ℕ → List ℕ) → AreWhole size n page → length (joined n page) ≡ n * size
length-joined size zero page whole = omega arith
length-joined size (suc n) page whole = length-append (joined n page) (page n) ∙ omega (arith, length-joined size n page (fewer size n page whole), whole.each n (omega arith))

pub page_of-joined : (size n : ℕ) (page : ℕ → List ℕ) (p : ℕ) → AreWhole size n page → p < n → page_bytes size (joined n page) p ≡ page p
page_of-joined size zero page p whole below = absurd (omega arith)
page_of-joined size (suc n) page p whole below =
    let len : length (joined n page) ≡ n * size = length-joined size n page (fewer size n page whole) in
    elim (cases_lt p n) [
      | inl under ↦ page_of-append size p (joined n page) (page n) (omega (arith, rows_apart p n size under)) ∙ page_of-joined size n page p (fewer size n page whole) under
      | inr top ↦
          let last : p ≡ n = omega arith in
          rw last (page_of-appended size n (joined n page) (page n) len (whole.each n (omega arith)))
    ]

pub joined-same : (n : ℕ) (page page' : ℕ → List ℕ) → ((p : ℕ) → p < n → page' p ≡ page p) → joined n page' ≡ joined n page
joined-same zero page page' same = refl
joined-same (suc n) page page' same = ap (λ (xs : List ℕ). xs ++ page' n) (joined-same n page page' (λ p below. same p (omega arith))) ∙ ap (λ (xs : List ℕ). joined n page ++ xs) (same n (omega arith))

module _ (pages : List ℕ) (page : ℕ → ℕ → List ℕ) where
  pub length-contents_by : length (contents_by pages page) ≡ length pages
  length-contents_by = length-map (enumerate_from 0 pages) (λ (r : ℕ × ℕ). joined r.1 (page r.0)) ∙ length-enumerate_from 0 pages

  pub get_or-contents_by : (r : ℕ) (d : List ℕ) → r < length pages → get_or (contents_by pages page) r d ≡ joined (get_or pages r 0) (page r)
  get_or-contents_by r d below =
      get_or-map (λ (e : ℕ × ℕ). joined e.1 (page e.0)) (enumerate_from 0 pages) r (0, 0) d (omega (arith, length-enumerate_from 0 pages))
      ∙ ap (λ (e : ℕ × ℕ). joined e.1 (page e.0)) (get_or-enumerate_from 0 pages r (0, 0) below ∙ ap (λ (k : ℕ). let pair : ℕ × ℕ = (k, get_or pages r 0) in pair) (omega arith))
