-- Pages of one size lie apart, what is told of them, and lists that grow by one.
use Rattle.std.proofs.Common.{◌≡◌, ◌≢◌, ◌⊎◌, inl, inr, ℕ, ◌+◌, ◌*◌, ◌<◌, ◌≤◌, true, cond, List, length, take, drop, Some, None, sym, ap, ◌∙◌, arith, rules}
use Rattle.std.proofs.lemmas.Bool.{cases_order, cases_Bool, cond-true, cond-false}
use Rattle.std.proofs.lemmas.List.{places, same_lists}
use Rattle.std.proofs.lemmas.Nat.{mul-le}
use Rattle.std.proofs.Math.Nat.{add-sub_cancel_left}
use Rattle.page_base.specs.Lanes.{Origin, has_page, told_at}
use Rattle.page_base.specs.ListSeen.{spliced}
use Rattle.store_trait.specs.Memory.{page_bytes, told_by}
use Rattle.store_trait.specs.WholePages.{told_at-told_by}

-- two rows of n lie apart
pub rows_apart : (i j n : ℕ) → i < j → i * n + n ≤ j * n
rows_apart i j n h = omega (arith, mul-le (i + 1) n j n (omega arith) (omega arith))

-- a range apart from the one that was written is as before
range_spliced : (xs new : List ℕ) (a b n : ℕ) → length new ≡ n → a + n ≤ length xs → (b + n ≤ a) ⊎ (a + n ≤ b) → take n (drop b (spliced xs a new)) ≡ take n (drop b xs)
range_spliced xs new a b n e fits apart = same_lists _ _ (search (rules, places)) (λ k d h. grind (arith, places))

pub page_of-spliced_other : (n i j : ℕ) (xs new : List ℕ) → length new ≡ n → i * n + n ≤ length xs → i ≢ j → page_bytes n (spliced xs (i * n) new) j ≡ page_bytes n xs j
page_of-spliced_other n i j xs new e fits apart = rw (add-sub_cancel_left (j * n) n) (range_spliced xs new (i * n) (j * n) n e fits (elim (cases_order i j) [
  | inl same ↦ absurd (apart same)
  | inr (inl lt) ↦ inr (rows_apart i j n lt)
  | inr (inr gt) ↦ inl (rows_apart j i n gt)
]))

pub page_of-spliced_same : (n i : ℕ) (xs new : List ℕ) → length new ≡ n → i * n + n ≤ length xs → page_bytes n (spliced xs (i * n) new) i ≡ new
page_of-spliced_same n i xs new e fits = same_lists _ _ (search (rules, places)) (λ k d h. grind (arith, places))

pub told_of_page : (o : Origin) (f : ℕ → List ℕ) (p : ℕ) → has_page o p ≡ true → told_at (told_by o f) p ≡ Some (f p)
told_of_page o f p h = told_at-told_by o f p ∙ cond-true (has_page o p) (Some (f p)) None h

-- two functions that agree at the lane's pages tell the same
pub same_told_at : (o : Origin) (f g : ℕ → List ℕ) (p : ℕ) → (has_page o p ≡ true → f p ≡ g p) → told_at (told_by o f) p ≡ told_at (told_by o g) p
same_told_at o f g p same = told_at-told_by o f p ∙ agree ∙ sym (told_at-told_by o g p)
  where
    agree : cond (has_page o p) (Some (f p)) None ≡ cond (has_page o p) (Some (g p)) None
    agree = elim (cases_Bool (has_page o p)) [
      | inl its ↦ cond-true (has_page o p) (Some (f p)) None its ∙ ap Some (same its) ∙ sym (cond-true (has_page o p) (Some (g p)) None its)
      | inr other ↦ cond-false (has_page o p) (Some (f p)) None other ∙ sym (cond-false (has_page o p) (Some (g p)) None other)
    ]
